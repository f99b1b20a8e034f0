pub mod RideLaws
pub mod ImageLaws
pub mod RouteLaws
