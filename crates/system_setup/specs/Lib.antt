pub mod Endings
pub mod Scheme
pub mod SetUp
