pub mod DigitLaws
pub mod FieldLaws
pub mod ScanLaws
pub mod PartLaws
