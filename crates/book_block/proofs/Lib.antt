pub mod FaultLaws
pub mod WriteLaws
