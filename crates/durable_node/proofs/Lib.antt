pub mod Orders
pub mod Keeping
pub mod Knowing
