pub mod Prelude
pub mod DistanceNames
pub mod GraphLaws
pub mod Graphs
pub mod MemberLaws
pub mod Tables
