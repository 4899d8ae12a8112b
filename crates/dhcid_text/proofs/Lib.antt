pub mod Base64Laws
pub mod HexLaws
pub mod DhcidLaws
pub mod DhcidWordLaws
pub mod Theorems
