pub mod Prelude
mod Loading
