pub mod SaysLaws
pub mod NumberLaws
pub mod ChoiceLaws
pub mod WritingLaws
pub mod DhcidLaws
pub mod Theorems
