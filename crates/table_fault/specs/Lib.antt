pub mod Judging
pub mod Sweeping
