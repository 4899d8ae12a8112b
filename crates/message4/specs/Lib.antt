pub mod Options4
pub mod Message4
pub mod Reading4
pub mod Judging4
