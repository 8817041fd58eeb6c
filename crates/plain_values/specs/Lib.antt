pub mod Prelude
pub mod BytesLaws
pub mod Blocks
pub mod Holding
pub mod Spelling
