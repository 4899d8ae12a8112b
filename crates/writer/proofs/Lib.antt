pub mod PartLaws
pub mod LineLaws
pub mod PlaceLaws
pub mod RoomLaws
pub mod WellFormedLaws
pub mod WordLaws
pub mod SpellingLaws
pub mod Theorems
