pub mod Prelude
pub mod Bits
pub mod Outcomes
pub mod PlanLaws
pub mod Requests
pub mod ReturnedRefusals
pub mod Indexed
