pub mod SlotLaws
pub mod FillLaws
pub mod LoadLaws
pub mod PlaceLaws
pub mod WrittenLaws
