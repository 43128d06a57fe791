pub mod Targets
pub mod Stops
