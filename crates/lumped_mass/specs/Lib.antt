pub mod Masses
pub mod Sums
pub mod Rows
