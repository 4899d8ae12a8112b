pub mod Dhcid
pub mod Base64
pub mod DhcidReading
