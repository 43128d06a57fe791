pub mod Entries
pub mod Texts
pub mod Parts
pub mod Values
pub mod Lines
pub mod Market
pub mod ReadBack
