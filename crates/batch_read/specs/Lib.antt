pub mod Batch
pub mod SoFar
