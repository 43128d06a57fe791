pub mod Endings
pub mod Sums
pub mod Texts
