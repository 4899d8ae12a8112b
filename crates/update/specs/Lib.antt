pub mod Message
pub mod Updates
pub mod Reading
pub mod Promise
pub mod Calls
pub mod Reply
