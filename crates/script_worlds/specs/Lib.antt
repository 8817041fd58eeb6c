pub mod Prelude
pub mod Counts
pub mod CountsLaws
pub mod Validity
pub mod ValidityLaws
pub mod NodeLaws
pub mod Worlds
