-- What the definitions use of std and of the crates below.
pub use Rattle.name_closure.specs.declared.loads.ClosureFault.{ClosureFault}
pub use Rattle.std.{proofs.Common.{All, length, List, map, min, Ok, Result, ℕ}, specs.{Global.{Vec}, List.{flat_map, range_with_len}}}
