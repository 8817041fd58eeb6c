pub mod Prelude
pub mod Orders
pub mod HostViews
pub mod Joined
pub mod Passes
pub mod Gathers
pub mod AtPlaces
