pub mod Offer
pub mod Pieces
