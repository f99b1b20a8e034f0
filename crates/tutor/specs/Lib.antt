pub mod Paper
pub mod Printed
pub mod Tutor
pub mod Witness
