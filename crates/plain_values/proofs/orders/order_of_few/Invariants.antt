use Rattle.std.proofs.Common.{◌≡◌}
use Rattle.plain_values.proofs.Prelude.{drop, nat_cmp, slice_cmp}
use Rattle.plain_values.proofs.orders.order_of_few.Given as goal

abbrev pub invariant-loop-place : goal.invariant-loop-place
invariant-loop-place l = slice_cmp nat_cmp l.a l.b ≡ slice_cmp nat_cmp (drop l.place l.a) (drop l.place l.b)
