pub mod Keeping
pub mod Talking
