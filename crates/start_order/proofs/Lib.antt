pub mod Prelude
pub mod Keys
pub mod Waiting
pub mod Rings
pub mod States
pub mod Left
pub mod Frees
