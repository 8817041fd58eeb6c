pub mod Prelude
pub mod Sorted
pub mod Merges
pub mod Scopes
pub mod Made
mod Pairs
mod Stored
mod Owned
