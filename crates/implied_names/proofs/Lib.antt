pub mod Prelude
mod Growth
mod Texts
