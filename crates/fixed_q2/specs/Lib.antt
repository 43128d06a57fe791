pub mod Biquadratic
pub mod CellForm
pub mod BoundaryForm
pub mod JumpForm
pub mod Samples
