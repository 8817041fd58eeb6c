pub mod Prelude
pub mod Paths
pub mod Roles
pub mod Sources
pub mod Tables
pub mod Implied
pub mod ImpliedLaws
