use Rattle.std.proofs.Common.{◌≡◌}
use Rattle.delta_pieces.proofs.{Joined.{news, sum_at}, Prelude.{digest_of, filter, is_newer, join, length}}
use Rattle.std.specs.FinMap as finmap
use Rattle.delta_pieces.proofs.newer.newer_than.Given as goal

abbrev pub invariant-loop-placed : goal.invariant-loop-placed
invariant-loop-placed l = join l.newer (sum_at (news l.both)) ≡ sum_at (filter (λ p. is_newer p.1.version (finmap.get (digest_of l.other) p.0)) (finmap.entries l.store))

abbrev pub decreases-loop-placed : goal.decreases-loop-placed
decreases-loop-placed l = length l.both
