pub mod Shelves
pub mod Gathering
