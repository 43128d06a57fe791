pub mod Counting
pub mod Swapped
pub mod Exchange
pub mod Forms
pub mod Halves
pub mod Points
pub mod Edges
