pub mod Steps
pub mod Calls
pub mod Promise
pub mod Demand2
