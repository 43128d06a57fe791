pub mod Agreeing
pub mod Batches
pub mod Doing
