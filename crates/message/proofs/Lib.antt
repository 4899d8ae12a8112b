pub mod PartLaws
pub mod RequestLaws
pub mod SeenLaws
