pub mod Prelude
pub mod Exchanges
pub mod Turned
