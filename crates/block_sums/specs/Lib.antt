pub mod Shares
pub mod Masters
pub mod Contributions
pub mod SmallLines
pub mod Adding
pub mod Parts
