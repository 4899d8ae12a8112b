pub mod KindLaws
pub mod RunLaws
pub mod PieceLaws
