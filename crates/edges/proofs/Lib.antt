pub mod RowLaws
pub mod Theorems
