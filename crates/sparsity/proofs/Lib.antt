pub mod Cutting
pub mod Having
pub mod Chaining
pub mod Listing
pub mod Piecing
pub mod Counting
pub mod Numbered
