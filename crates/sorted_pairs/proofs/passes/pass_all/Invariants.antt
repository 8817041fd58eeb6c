use Rattle.std.proofs.Common.{◌++◌, ◌+◌, ◌≡◌, ◌≤◌}
use Rattle.sorted_pairs.proofs.Prelude.{deque_len, vec_capacity, vec_len}
use Rattle.sorted_pairs.proofs.passes.pass_all.Given as goal

abbrev pub invariant-loop-passed : goal.invariant-loop-passed
invariant-loop-passed g l = (l.passed.items ++ l.rest.items ≡ l.fn.passed.items ++ l.fn.rest.items) × (vec_len l.passed + deque_len l.rest ≤ vec_capacity l.passed)

abbrev pub decreases-loop-passed : goal.decreases-loop-passed
decreases-loop-passed g l = deque_len l.rest
