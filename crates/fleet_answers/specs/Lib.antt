pub mod Prelude
pub mod AnswerLaws
pub mod Answers
pub mod Fleets
pub mod HostLaws
pub mod ShownLaws
pub mod Tracked
pub mod UnitLaws
