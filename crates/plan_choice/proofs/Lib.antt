pub mod Prelude
pub mod Fitting
pub mod WalkLemmas
pub mod WeakDependencyLemmas
pub mod ChoiceLemmas
pub mod CauseLemmas
pub mod PlanLemmas
