pub mod Prelude
pub mod Cutting
pub mod Listing
pub mod Spreading
pub mod Works
pub mod Levels
pub mod Insides
pub mod Walks
