pub mod Prelude
pub mod Failures
pub mod FailuresLaws
pub mod KnownBytes
pub mod KnownBytesLaws
pub mod Watch
