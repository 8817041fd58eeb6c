pub mod Prelude
mod CutLemmas
