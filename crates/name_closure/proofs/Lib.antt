pub mod Prelude
mod Adding
mod Insertions
mod News
mod Others
mod Rounding
mod Searched
