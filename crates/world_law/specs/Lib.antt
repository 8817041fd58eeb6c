pub mod Prelude
pub mod Cuts
pub mod CutLaws
pub mod Worlds
pub mod Took
pub mod SoundLaws
pub mod WorldLaws
