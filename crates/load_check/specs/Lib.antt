pub mod Loading
pub mod Walking
