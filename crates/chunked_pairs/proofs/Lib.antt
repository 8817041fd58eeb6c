pub mod Prelude
pub mod Views
pub mod Passes
pub mod Lasts
pub mod Lengths
pub mod CutEdits
