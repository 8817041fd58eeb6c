pub mod Outcomes
pub mod ReadSteps
