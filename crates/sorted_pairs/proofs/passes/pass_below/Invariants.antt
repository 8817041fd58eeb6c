use Rattle.std.proofs.Common.{◌++◌, ◌+◌, ◌≡◌, ◌≤◌}
use Rattle.sorted_pairs.proofs.Prelude.{AreBelow, deque_len, vec_capacity, vec_len}
use Rattle.sorted_pairs.proofs.passes.pass_below.Given as goal

abbrev pub invariant-loop-pair : goal.invariant-loop-pair
invariant-loop-pair g l = record {
  pairs : l.passed.items ++ l.rest.items ≡ l.fn.passed.items ++ l.fn.rest.items;
  below : AreBelow g.K.Ord.cmp l.key l.passed.items;
  len : vec_len l.passed + deque_len l.rest ≡ vec_len l.fn.passed + deque_len l.fn.rest;
  room : vec_len l.passed + deque_len l.rest ≤ vec_capacity l.passed;
  capacity : vec_capacity l.fn.passed ≤ vec_capacity l.passed;
}

abbrev pub decreases-loop-pair : goal.decreases-loop-pair
decreases-loop-pair g l = deque_len l.rest
