pub mod Draws
pub mod Grid
pub mod Rows
