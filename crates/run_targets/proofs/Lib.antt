pub mod Setups
pub mod Steps
pub mod Systems
pub mod Vectors
pub mod Adapted
pub mod Definitions
