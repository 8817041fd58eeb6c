pub mod Prelude
pub mod Stepping
