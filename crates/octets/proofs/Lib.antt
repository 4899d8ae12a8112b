pub mod ZeroLaws
pub mod SameLaws
pub mod CloseUpLaws
