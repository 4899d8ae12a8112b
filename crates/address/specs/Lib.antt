pub mod Address
pub mod Forms
