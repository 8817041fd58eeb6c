-- Byte strings that compare as equal are equal, so their hashes are equal too.
use Rattle.std.proofs.Common.{◌≡◌}
use Rattle.plain_values.specs.Prelude.{ap, eq_by_cmp, Equal, Greater, is_eq, IsTrue, Less, List, nat_cmp, nat_cmp-IsAntisymmetric, Ordering, refl, slice_cmp, slice_cmp-IsAntisymmetric, ℕ}
use Rattle.std.specs.Hash as fed

is_equal : (o : Ordering) → IsTrue (is_eq o) → o ≡ Equal
is_equal Less h = cc (h)
is_equal Equal h = refl
is_equal Greater h = cc (h)

pub equal_bytes : (x y : List ℕ) → IsTrue (eq_by_cmp (slice_cmp nat_cmp) x y) → x ≡ y
equal_bytes x y h = slice_cmp-IsAntisymmetric nat_cmp-IsAntisymmetric x y (is_equal (slice_cmp nat_cmp x y) h)

pub hashed_alike : (x y : List ℕ) → IsTrue (eq_by_cmp (slice_cmp nat_cmp) x y) → fed.slice fed.u8 x ≡ fed.slice fed.u8 y
hashed_alike x y h = ap (fed.slice fed.u8) (equal_bytes x y h)
