pub mod Prelude
pub mod StartOrder
pub mod Precedes
pub mod OrderLaws
pub mod CycleLaws
pub mod NamedOrders
pub mod Counts
pub mod Walks
