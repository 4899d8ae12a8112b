pub mod EntryCases
pub mod EntryLaws
pub mod SlotLaws
pub mod SideLaws
pub mod Theorems
