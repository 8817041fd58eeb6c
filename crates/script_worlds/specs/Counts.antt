-- Upper bounds of the counters in a world.
-- Source: this project's own.
use Rattle.std.proofs.Common.{◌≤◌}
use Rattle.script_worlds.specs.{Prelude.{Edit, high_of, IsAmong, ℕ}, Validity.{puts}, Worlds.{held, ScriptWorld}}

-- each edit that was put has a counter of at most n
abbrev pub IsPutUpTo : ℕ → ScriptWorld → Type 0
IsPutUpTo n world = (e : Edit) → IsAmong e (puts world) → e.version.counter ≤ n

-- and so has every entry that a node holds
pub record IsCountedTo (n : ℕ) (world : ScriptWorld) : Type 0 where
  pub edits : IsPutUpTo n world
  pub stores : (k : ℕ) → high_of (held world k) ≤ n
