pub mod Defines
pub mod Reads
pub mod Ends
