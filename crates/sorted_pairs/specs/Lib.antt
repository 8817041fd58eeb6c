pub mod Prelude
pub mod Places
pub mod PlaceLaws
pub mod SearchLaws
