pub mod Prelude
pub mod Replicas
