pub mod BeginLaws
pub mod DemandLaws
pub mod FillingLaws
pub mod Theorems
