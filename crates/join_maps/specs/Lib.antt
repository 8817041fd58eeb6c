pub mod Prelude
pub mod Held
pub mod Outcomes
