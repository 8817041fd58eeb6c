use Rattle.std.proofs.Common.{◌≡◌}
use Rattle.plain_values.proofs.Prelude.{length, nat_cmp, slice_cmp}
use Rattle.plain_values.proofs.orders.past_all_words.Given as goal

-- the remaining bytes decide
abbrev pub invariant-loop-a_left : goal.invariant-loop-a_left
invariant-loop-a_left l = slice_cmp nat_cmp l.a_left l.b_left ≡ slice_cmp nat_cmp l.a l.b

abbrev pub decreases-loop-a_left : goal.decreases-loop-a_left
decreases-loop-a_left l = length l.a_left
