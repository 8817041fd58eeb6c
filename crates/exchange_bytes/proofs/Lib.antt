pub mod Loops
pub mod Taking
pub mod Whole
pub mod Inserting
pub mod Packing
pub mod Weighing
