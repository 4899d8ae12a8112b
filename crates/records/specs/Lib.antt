pub mod Written
pub mod Gathered
pub mod Calls
pub mod Promise
