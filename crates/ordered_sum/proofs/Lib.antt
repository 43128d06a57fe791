pub mod Stretches
pub mod Copied
pub mod Steps
pub mod Ends
pub mod Runs
