pub mod Prelude
pub mod Histories
pub mod Books
pub mod Codes
pub mod PrefixLaws
pub mod HistoryLaws
pub mod HistoryWorlds
pub mod HistoryWorldLaws
