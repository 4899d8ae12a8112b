pub mod StepLaws
pub mod CallLaws
