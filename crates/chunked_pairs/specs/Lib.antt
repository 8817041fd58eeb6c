pub mod Prelude
pub mod Chunks
pub mod Cursors
pub mod Searches
pub mod ChunkLaws
pub mod EditLaws
