pub mod Label
pub mod Name
pub mod Promise
pub mod ProperTest
pub mod TextTest
pub mod NotInLabel
