pub mod FindLaws
pub mod LineLaws
pub mod Theorems
