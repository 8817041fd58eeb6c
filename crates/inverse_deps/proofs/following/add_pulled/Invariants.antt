use Rattle.std.proofs.Common.{◌↔◌, ◌⊎◌}
use Rattle.inverse_deps.proofs.Prelude.{HasPulled, IsAmong, take, ℕ}
use Rattle.inverse_deps.proofs.following.add_pulled.Given as goal

abbrev pub invariant-loop-dep : goal.invariant-loop-dep
invariant-loop-dep l = (j : ℕ) → IsAmong j l.indices.items ↔ (IsAmong j l.initial.indices.items ⊎ HasPulled l.names l.before (take l.dep-index l.deps) j)
