pub mod Prelude
mod Borrowed
mod Crossed
mod Reading
mod Rendered
