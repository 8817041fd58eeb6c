pub mod Prelude
mod Paths
mod Made
mod SamePaths
mod Own
mod Seated
mod Ours
mod Listed
mod Held
