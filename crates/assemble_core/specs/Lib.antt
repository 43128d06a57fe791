pub mod Modes
pub mod Answer
pub mod Run
pub mod Batch
pub mod Writing
