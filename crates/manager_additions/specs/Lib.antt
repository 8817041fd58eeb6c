pub mod Prelude
pub mod Additions
