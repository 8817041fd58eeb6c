pub mod Prelude
mod Asked
mod Fleets
mod Held
mod Returned
mod Touched
mod Units
