pub mod Cells
pub mod CellLaws
pub mod Tables
pub mod States
pub mod Found
pub mod Closed
