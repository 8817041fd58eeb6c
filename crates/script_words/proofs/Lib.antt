pub mod Prelude
pub mod NumberLemmas
pub mod TextLemmas
pub mod WordLemmas
