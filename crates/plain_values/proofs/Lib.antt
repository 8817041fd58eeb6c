pub mod Prelude
pub mod Spelled
