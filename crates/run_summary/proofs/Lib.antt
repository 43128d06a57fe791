pub mod Folds
pub mod Small
pub mod Passes
pub mod Lines
pub mod Checked
pub mod SumsFit
