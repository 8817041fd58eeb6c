pub mod Prelude
pub mod EvaluatesTo
pub mod Borrowed
pub mod Linked
pub mod Steps
