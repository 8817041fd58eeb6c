pub mod Held
pub mod Scoping
pub mod Steps
