pub mod Sizes
pub mod Entry
pub mod Form
pub mod Promise
