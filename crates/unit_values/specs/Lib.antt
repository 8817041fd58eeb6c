pub mod Prelude
pub mod Facts
pub mod BuiltIn
pub mod Defaults
pub mod Named
pub mod ValueLaws
