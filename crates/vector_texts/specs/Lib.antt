pub mod Endings
pub mod Fitting
pub mod Product
pub mod Text
pub mod Marks
