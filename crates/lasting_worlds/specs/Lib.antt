pub mod Prelude
pub mod LifeEvents
pub mod LifeEventLaws
