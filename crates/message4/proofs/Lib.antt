pub mod Laws4
pub mod PartLaws4
pub mod JudgeLaws4
pub mod WalkLaws4
pub mod PlaceLaws4
pub mod Theorems
