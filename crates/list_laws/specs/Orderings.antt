-- Results of comparisons.
-- Source: this project's own.
use Rattle.std.proofs.Common.{◌≡◌, ◌≢◌}
use Rattle.list_laws.specs.Prelude.{ap, Equal, false, Greater, is_eq, is_lt, IsTotalOrder, IsTrue, Less, Ordering, ordering_reverse, refl, true, ◌∙◌}

pub is_less : (r : Ordering) → IsTrue (is_lt r) → r ≡ Less
is_less Less h = refl
is_less Equal h = cc (h)
is_less Greater h = cc (h)

pub is_equal : (r : Ordering) → is_eq r ≡ true → r ≡ Equal
is_equal Less h = cc (h)
is_equal Equal h = refl
is_equal Greater h = cc (h)

pub is_greater : (r : Ordering) → r ≢ Less → is_eq r ≡ false → r ≡ Greater
is_greater Less n h = absurd (n refl)
is_greater Equal n h = cc (h)
is_greater Greater n h = refl

-- swapping the operands reverses the result
pub turned : {K : Type 0} (R : K → K → Ordering) (o : IsTotalOrder R) (x y : K) (r : Ordering) → R x y ≡ r → R y x ≡ ordering_reverse r
turned R o x y r h = o.antisymm y x ∙ ap ordering_reverse h
