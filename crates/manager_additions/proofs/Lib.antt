pub mod Prelude
mod Changed
