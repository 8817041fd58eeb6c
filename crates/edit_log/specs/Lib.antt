pub mod Prelude
pub mod Logs
pub mod Memory
pub mod Lives
pub mod LifeLaws
