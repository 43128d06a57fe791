pub mod Entries
pub mod Rooms
pub mod Made
pub mod Squares
pub mod Visited
pub mod Filled
