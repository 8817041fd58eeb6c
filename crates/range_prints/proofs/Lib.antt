pub mod Prelude
pub mod Bounds
pub mod Counts
pub mod CutRanges
pub mod Sums
pub mod Stores
