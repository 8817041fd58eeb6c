pub mod Prelude
pub mod EntrySays
pub mod Steps
pub mod Gathering
pub mod Leads
pub mod Levels
pub mod Indexing
pub mod OwnLinks
