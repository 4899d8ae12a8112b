pub mod Finding
pub mod Printing
