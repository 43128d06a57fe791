pub mod Shelving
pub mod Naming
pub mod Places
pub mod OneReading
pub mod SomeReading
