pub mod Sizes
pub mod Entry
pub mod Form
pub mod Effect
pub mod Promise
pub mod Fields
pub mod SlotTests
