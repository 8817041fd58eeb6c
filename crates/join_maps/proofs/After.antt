-- Indices after the pairs that were passed, and a pass that joins copies.
use Rattle.std.proofs.Common.{◌++◌, ◌<◌, ◌∷◌, ◌≡◌}
use Rattle.join_maps.proofs.Prelude.{[], and_parts, ap, AreBelow, arith, below_at, get_or, insert, is_sorted, IsAt, IsGap, IsTotalOrder, IsTrue, length, Less, List, Ordering, refl, set, suc, turned, zero, ℕ}

pub set_after : {A : Type 0} (xs ys : List A) (x : A) → set (xs ++ ys) (length xs) x ≡ xs ++ set ys 0 x
set_after [] ys x = refl
set_after (y ∷ xs) ys x = ap (λ l. y ∷ l) (set_after xs ys x)

pub get_after : {A : Type 0} (xs ys : List A) (d : A) → get_or (xs ++ ys) (length xs) d ≡ get_or ys 0 d
get_after [] ys d = refl
get_after (x ∷ xs) ys d = get_after xs ys d

pub insert_after : {A : Type 0} (xs ys : List A) (x : A) → insert (xs ++ ys) (length xs) x ≡ (xs ++ x ∷ []) ++ ys
insert_after [] ys x = refl
insert_after (y ∷ xs) ys x = ap (λ l. y ∷ l) (insert_after xs ys x)

module _ {K V : Type 0} (R : K → K → Ordering) (o : IsTotalOrder R) (k : K) where
  pub at_after : (xs ys : List (K × V)) → AreBelow R k xs → IsAt R k ys 0 → IsAt R k (xs ++ ys) (length xs)
  at_after [] ys b a = a
  at_after (x ∷ xs) ys b a = (turned R o x.0 k Less b.0, at_after xs ys b.1 a)

  pub gap_after : (xs ys : List (K × V)) → AreBelow R k xs → IsGap R k ys 0 → IsGap R k (xs ++ ys) (length xs)
  gap_after [] ys b a = a
  gap_after (x ∷ xs) ys b a = (turned R o x.0 k Less b.0, gap_after xs ys b.1 a)

-- later keys are greater
pub keys_ascend : {K V : Type 0} (R : K → K → Ordering) (es : List (K × V)) (i j : ℕ) (d c : K × V) → IsTrue (is_sorted R es) → i < j → j < length es → R (get_or es i d).0 (get_or es j c).0 ≡ Less
keys_ascend R [] i j d c s lt l = absurd (omega arith)
keys_ascend R (e ∷ es) zero zero d c s lt l = absurd (omega arith)
keys_ascend R (e ∷ es) zero (suc j) d c s lt l = below_at R e.0 es j c (and_parts _ _ s).0 (omega arith)
keys_ascend R (e ∷ es) (suc i) zero d c s lt l = absurd (omega arith)
keys_ascend R (e ∷ es) (suc i) (suc j) d c s lt l = keys_ascend R es i j d c (and_parts _ _ s).1 (omega arith) (omega arith)
