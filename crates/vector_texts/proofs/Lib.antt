pub mod Lines
pub mod Small
pub mod Fit
pub mod Chain
