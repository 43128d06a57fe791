pub mod RowSteps
pub mod Members
pub mod RoundRows
pub mod ColorItems
pub mod ColorSums
pub mod ColorRounds
pub mod HeldMarks
