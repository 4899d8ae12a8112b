pub mod Zone
pub mod Rules
pub mod Holds
pub mod Sent
