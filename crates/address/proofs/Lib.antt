pub mod AddressLaws
pub mod WrittenLaws
pub mod WholeLaws
pub mod Theorems
