pub mod Found
pub mod Compacted
