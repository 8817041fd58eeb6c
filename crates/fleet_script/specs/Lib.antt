pub mod Prelude
pub mod Does
pub mod Ends
pub mod Holds
pub mod Readings
pub mod ScriptLaws
pub mod Scripts
