-- Valid worlds, whose edits are told apart by their versions.
-- Source: this project's own.
use Rattle.std.proofs.Common.{◌<◌, ◌==◌, ◌||◌, ◌≡◌, ◌≤◌}
use Rattle.script_worlds.specs.{Prelude.{AreToldApart, AreWithin, Bool, Edit, high_of, IsAmong, length, List, list_any, puts_of, ℕ}, Worlds.{has_writer, held, ScriptWorld, writer_at}}

-- the edits that were put
abbrev pub puts : ScriptWorld → List Edit
puts world = puts_of (length world.nodes) world.events

-- a writer number is used if a node has it or an edit that was put
abbrev pub is_used : ScriptWorld → ℕ → Bool
is_used world writer = has_writer world.nodes writer || list_any (λ e. e.version.writer == writer) (puts world)

-- no two nodes have the same writer number, each node holds the counters that were put under its number, and so no two
-- edits of one place have one version
pub record IsValid (world : ScriptWorld) : Type 0 where
  pub within : AreWithin (length world.nodes) world.events
  pub apart : (j k : ℕ) → j < length world.nodes → k < length world.nodes → writer_at world.nodes j ≡ writer_at world.nodes k → j ≡ k
  pub own : (e : Edit) → IsAmong e (puts world) → (k : ℕ) → k < length world.nodes
      → e.version.writer ≡ writer_at world.nodes k → e.version.counter ≤ high_of (held world k)
  pub told : AreToldApart (puts world)
