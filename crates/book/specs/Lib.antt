pub mod Notes
pub mod Blocks
pub mod Books
pub mod Calls
pub mod LastNote
