pub mod Runs
pub mod Splits
pub mod Values
pub mod Sizes
pub mod Allowed
pub mod Units
pub mod CellSteps
pub mod RowCells
