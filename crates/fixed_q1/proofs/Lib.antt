pub mod Fits
pub mod Parts
pub mod Forms
pub mod Bounds
pub mod Loads
pub mod Symmetry
pub mod Edges
pub mod Jumps
pub mod FaceBounds
pub mod Turned
pub mod Exchanged
pub mod Certain
mod TenEntries
