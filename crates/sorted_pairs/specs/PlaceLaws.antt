-- What an edit at an index does to sorted pairs.
use Rattle.std.proofs.Common.{◌++◌, ◌<◌, ◌∷◌, ◌≡◌, ◌≤◌}
use Rattle.sorted_pairs.specs.Prelude.{[], and_parts, ap, arith, below_all, by_order, cond, false, find, get_or, insert, is_eq, is_less, is_lt, is_sorted, IsTotalOrder, IsTrue, length, Less, List, None, Ordering, put, refl, set, Some, suc, sym, take, turned, zero, ℕ, ◌∙◌}
use Rattle.sorted_pairs.specs.Places.{AreBelow, IsAt, IsGap, IsNotBelow}

module _ {K V : Type 0} (R : K → K → Ordering) (k : K) where
  pub at_within : (es : List (K × V)) (i : ℕ) → IsAt R k es i → i < length es
  at_within [] i a = absurd a
  at_within (e ∷ es) zero a = omega arith
  at_within (e ∷ es) (suc i) a = let h = at_within es i a.1 in omega arith

  pub gap_within : (es : List (K × V)) (i : ℕ) → IsGap R k es i → i ≤ length es
  gap_within [] zero g = omega arith
  gap_within [] (suc i) g = absurd g
  gap_within (e ∷ es) zero g = omega arith
  gap_within (e ∷ es) (suc i) g = let h = gap_within es i g.1 in omega arith

  -- overwriting the value at the key's index is `put`
  pub set_is_put : (es : List (K × V)) (i : ℕ) (v : V) (d : K × V) → IsAt R k es i → set es i ((get_or es i d).0, v) ≡ put R k v es
  set_is_put [] i v d a = absurd a
  set_is_put (e ∷ es) zero v d a = sym (ap (λ r. by_order r ((k, v) ∷ e ∷ es) ((e.0, v) ∷ es) (e ∷ put R k v es)) a)
  set_is_put (e ∷ es) (suc i) v d a = ap (λ l. e ∷ l) (set_is_put es i v d a.1) ∙ sym (ap (λ r. by_order r ((k, v) ∷ e ∷ es) ((e.0, v) ∷ es) (e ∷ put R k v es)) a.0)

  -- inserting a new pair at the gap is `put`
  pub insert_is_put : (es : List (K × V)) (i : ℕ) (v : V) → IsGap R k es i → insert es i (k, v) ≡ put R k v es
  insert_is_put [] zero v g = refl
  insert_is_put [] (suc i) v g = absurd g
  insert_is_put (e ∷ es) zero v g = sym (ap (λ r. by_order r ((k, v) ∷ e ∷ es) ((e.0, v) ∷ es) (e ∷ put R k v es)) g)
  insert_is_put (e ∷ es) (suc i) v g = ap (λ l. e ∷ l) (insert_is_put es i v g.1) ∙ sym (ap (λ r. by_order r ((k, v) ∷ e ∷ es) ((e.0, v) ∷ es) (e ∷ put R k v es)) g.0)

  -- `find` returns the value at the key's index
  pub find_at : (es : List (K × V)) (i : ℕ) (d : K × V) → IsAt R k es i → find R k es ≡ Some (get_or es i d).1
  find_at [] i d a = absurd a
  find_at (e ∷ es) zero d a = ap (λ r. cond (is_eq r) (Some e.1) (find R k es)) a
  find_at (e ∷ es) (suc i) d a = ap (λ r. cond (is_eq r) (Some e.1) (find R k es)) a.0 ∙ find_at es i d a.1

  module _ (o : IsTotalOrder R) where
    pub find_before : (x : K) → R k x ≡ Less → (es : List (K × V)) → IsTrue (below_all R x es) → find R k es ≡ None
    find_before x p [] h = refl
    find_before x p (e ∷ es) h = ap (λ r. cond (is_eq r) (Some e.1) (find R k es)) (o.trans k x e.0 p (is_less _ (and_parts _ _ h).0)) ∙ find_before x p es (and_parts _ _ h).1

    -- `find` returns nothing for a key that has a gap
    pub find_gap : (es : List (K × V)) (i : ℕ) → IsTrue (is_sorted R es) → IsGap R k es i → find R k es ≡ None
    find_gap [] i s g = refl
    find_gap (e ∷ es) zero s g = ap (λ r. cond (is_eq r) (Some e.1) (find R k es)) g ∙ find_before e.0 g es (and_parts _ _ s).0
    find_gap (e ∷ es) (suc i) s g = ap (λ r. cond (is_eq r) (Some e.1) (find R k es)) g.0 ∙ find_gap es i (and_parts _ _ s).1 g.1

    -- after pairs with lesser keys, `put` acts on the remaining pairs
    pub put_after : (xs ys : List (K × V)) (v : V) → AreBelow R k xs → put R k v (xs ++ ys) ≡ xs ++ put R k v ys
    put_after [] ys v b = refl
    put_after (x ∷ xs) ys v b =
        ap (λ r. by_order r ((k, v) ∷ x ∷ xs ++ ys) ((x.0, v) ∷ (xs ++ ys)) (x ∷ put R k v (xs ++ ys))) (turned R o x.0 k Less b.0) ∙
        ap (λ (l : List (K × V)). x ∷ l) (put_after xs ys v b.1)

    pub find_after : (xs ys : List (K × V)) → AreBelow R k xs → find R k (xs ++ ys) ≡ find R k ys
    find_after [] ys b = refl
    find_after (x ∷ xs) ys b = ap (λ r. cond (is_eq r) (Some x.1) (find R k (xs ++ ys))) (turned R o x.0 k Less b.0) ∙ find_after xs ys b.1

  pub below_append : (xs ys : List (K × V)) → AreBelow R k xs → AreBelow R k ys → AreBelow R k (xs ++ ys)
  below_append [] ys b c = c
  below_append (x ∷ xs) ys b c = (b.0, below_append xs ys b.1 c)

-- pairs below a key are below every greater key
pub below_further : {K V : Type 0} (R : K → K → Ordering) (o : IsTotalOrder R) (k m : K) → R k m ≡ Less
    → (xs : List (K × V)) → AreBelow R k xs → AreBelow R m xs
below_further R o k m h [] b = tt
below_further R o k m h (x ∷ xs) b = (o.trans x.0 k m b.0 h, below_further R o k m h xs b.1)

-- a key above the first pair is above the list of that pair alone
pub below_first : {K V : Type 0} (R : K → K → Ordering) (k : K) (xs : List (K × V)) (d : K × V)
    → R (get_or xs 0 d).0 k ≡ Less → AreBelow R k (take 1 xs)
below_first R k [] d h = tt
below_first R k (x ∷ xs) d h = (h, tt)

pub not_below_first : {K V : Type 0} (R : K → K → Ordering) (k : K) (xs : List (K × V)) (d : K × V)
    → is_lt (R (get_or xs 0 d).0 k) ≡ false → IsNotBelow R k xs
not_below_first R k [] d h = tt
not_below_first R k (x ∷ xs) d h = λ e. let f = ap is_lt e in cc (f, h)
