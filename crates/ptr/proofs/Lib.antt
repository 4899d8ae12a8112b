pub mod LabelLaws
pub mod NameLaws
pub mod PutLaws
pub mod CallLaws
pub mod Theorems
pub mod Examples
