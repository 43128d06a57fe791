pub mod Asking
pub mod Endings
pub mod Statuses
pub mod Taken
pub mod Writing
