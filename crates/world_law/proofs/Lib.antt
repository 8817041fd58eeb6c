pub mod Prelude
pub mod Theorem
pub mod TookLemmas
