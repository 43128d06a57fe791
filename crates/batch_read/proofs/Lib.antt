pub mod SoFar
pub mod Readings
