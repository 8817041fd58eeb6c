use Rattle.std.proofs.Common.{◌<◌, ◌≤◌}
use Rattle.index_rows.proofs.Prelude.{Contains, get_or, IsMember, length, ℕ}
use Rattle.index_rows.proofs.bits.least_member.Given as goal

abbrev pub invariant-loop-node : goal.invariant-loop-node
invariant-loop-node l = record {
  least : (k : ℕ) → k < l.node-index → IsMember l.bits (get_or l.nodes k 0) → l.least ≤ get_or l.nodes k 0;
  found : l.least < length l.bits → IsMember l.bits l.least × Contains l.nodes l.least;
}
