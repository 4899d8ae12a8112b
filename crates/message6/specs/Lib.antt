pub mod Options6
pub mod Message6
pub mod Reading6
pub mod Walking6
