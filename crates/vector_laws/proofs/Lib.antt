pub mod Sorting
pub mod Fitted
pub mod Products
pub mod Exact
pub mod Marked
