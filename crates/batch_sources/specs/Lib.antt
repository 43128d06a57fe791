pub mod Reads
pub mod Sources
pub mod Steps
pub mod Lines
pub mod Laws
