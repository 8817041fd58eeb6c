pub mod Faults
pub mod Nodes
pub mod News
pub mod NewsLaws
pub mod Histories
pub mod RowLaws
pub mod Peers
