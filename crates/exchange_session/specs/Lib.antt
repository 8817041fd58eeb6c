pub mod Prelude
pub mod Answered
pub mod Told
pub mod Joined
pub mod Events
pub mod Standing
pub mod Runs
