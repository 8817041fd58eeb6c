pub mod Prelude
pub mod Alike
pub mod Comments
pub mod JoinLemmas
pub mod OneLine
pub mod PartLemmas
pub mod PlaceLemmas
pub mod ReadBack
