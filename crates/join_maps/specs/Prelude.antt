-- What the definitions use of std and of the crates below.
pub use Rattle.std.{proofs.Common.{[], Bool, length, List, None, OnErr, OnOk, Result, ℕ}, specs.{Bool.{OnFalse, OnTrue}, declared.cmp.Ordering.{Ordering, TheVariants.{Equal}}}}
