pub mod Prelude
pub mod FaultLemmas
pub mod ReadLemmas
pub mod WriteLemmas
