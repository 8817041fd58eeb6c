pub mod Prelude
mod Cutting
mod Joining
mod Naming
