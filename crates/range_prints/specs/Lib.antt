pub mod Prelude
pub mod Ranges
pub mod Prints
pub mod Asked
pub mod AskedLaws
