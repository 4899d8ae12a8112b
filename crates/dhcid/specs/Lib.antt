pub mod Chosen
pub mod Dhcid
pub mod Handing
pub mod Choosing
