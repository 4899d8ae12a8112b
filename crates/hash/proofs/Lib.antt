pub mod StateLaws
pub mod PaddingLaws
pub mod DigestLaws
pub mod Theorems
