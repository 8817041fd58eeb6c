pub mod Prelude
pub mod Answering
pub mod Casing
pub mod BitSets
