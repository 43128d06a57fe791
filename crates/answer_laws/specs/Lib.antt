pub mod Laws
pub mod Runs
pub mod Existence
pub mod Formats
pub mod Parts
