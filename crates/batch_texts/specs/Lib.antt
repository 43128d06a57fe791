pub mod Shelf
pub mod Names
