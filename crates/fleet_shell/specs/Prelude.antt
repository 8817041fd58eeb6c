-- What the definitions use of std and of the crates below.
pub use Rattle.fleet_script.specs.declared.faults.ShellFault.{ShellFault, TheVariants.{Memory, Read, Write}}
pub use Rattle.std.proofs.Common.{Err, Ok, Result, ℕ}
