pub mod Setup
pub mod Parts
pub mod Sum
pub mod Plans
pub mod Limits
