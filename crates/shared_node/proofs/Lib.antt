pub mod Prelude
pub mod Seeing
pub mod Latest
pub mod Counting
pub mod Auditing
pub mod Taken
