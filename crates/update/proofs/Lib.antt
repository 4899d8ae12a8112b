pub mod LengthLaws
pub mod RestLaws
pub mod PlacedLaws
pub mod ReadLaws
pub mod FitLaws
pub mod CallLaws
pub mod Theorems
