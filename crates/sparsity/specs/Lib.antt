pub mod Cuts
pub mod Coupled
pub mod Chains
pub mod Rows
pub mod Pieces
