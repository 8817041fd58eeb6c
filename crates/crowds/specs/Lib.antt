pub mod Prelude
pub mod Crowds
pub mod Workers
