pub mod LineLaws
pub mod NextLaws
pub mod BatchLaws
