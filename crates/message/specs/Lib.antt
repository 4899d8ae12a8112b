pub mod Options
pub mod Request
pub mod Seen
