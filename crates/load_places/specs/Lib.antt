pub mod Prelude
pub mod Hosts
pub mod Places
pub mod PlaceLaws
pub mod Texts
pub mod TextLaws
pub mod Levels
pub mod LevelLaws
