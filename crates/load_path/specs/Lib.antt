pub mod Prelude
pub mod Paths
pub mod PathLaws
pub mod TextLaws
