pub mod Prelude
pub mod Joins
pub mod Rounds
pub mod Shown
pub mod Runs
