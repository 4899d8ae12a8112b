pub mod Held
pub mod Parts
pub mod EntryText
pub mod EntryAt
