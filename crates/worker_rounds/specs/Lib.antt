pub mod Prelude
pub mod WorkerCounts
pub mod Joined
pub mod Refusals
pub mod Chunks
