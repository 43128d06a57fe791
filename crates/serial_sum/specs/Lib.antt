pub mod Columns
pub mod Parts
pub mod Rows
pub mod SerialSum
pub mod Steps
pub mod Marks
pub mod FirstMark
pub mod Adders
