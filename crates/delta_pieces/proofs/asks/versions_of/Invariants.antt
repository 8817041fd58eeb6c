use Rattle.std.proofs.Common.{◌++◌, ◌≡◌}
use Rattle.delta_pieces.proofs.Prelude.{length, map}
use Rattle.std.specs.FinMap as finmap
use Rattle.delta_pieces.proofs.asks.versions_of.Given as goal

abbrev pub invariant-loop-placed : goal.invariant-loop-placed
invariant-loop-placed l = l.versions.items ++ map (λ p. (p.0, p.1.version)) l.entries ≡ map (λ p. (p.0, p.1.version)) (finmap.entries l.store)

abbrev pub decreases-loop-placed : goal.decreases-loop-placed
decreases-loop-placed l = length l.entries
