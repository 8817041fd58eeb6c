pub mod Prelude
pub mod Adding
pub mod Finding
pub mod Linking
pub mod Listing
pub mod Mounting
pub mod Pulling
pub mod Tabling
