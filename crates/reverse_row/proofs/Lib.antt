pub mod KeyLaws
pub mod WriteLaws
pub mod HeldLaws
