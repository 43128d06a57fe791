pub mod Colorings
pub mod Small
