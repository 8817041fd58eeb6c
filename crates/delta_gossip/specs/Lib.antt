pub mod Prelude
pub mod Convergence
pub mod Exchanges
pub mod Shows
pub mod Sweeps
