-- Pairs in ascending order of keys: the places of keys, and what follows from the keys alone.
use Rattle.std.{proofs.Common.{◌&&◌, ◌<◌, ◌∷◌, ◌≡◌}, specs.FinMap.Entries.{find, is_sorted}}
use Rattle.parallel_load.specs.Prelude.{[], AllByRecursion, and_from, and_parts, ap, arith, below_all, cond, Equal, get_or, Greater, is_eq, is_less, is_lt, IsAntisymmetric, IsAt, IsStrictlySortedBy, IsTotalOrder, IsTrue, keys_of, length, Less, List, none-some, Ordering, refl, Some, sorted_head, sorted_tail, suc, sym, tied_itself, turned, zero, ℕ, ◌∙◌}

-- the key at a place
pub key_at_place : {K V : Type 0} (es : List (K × V)) (i : ℕ) (d : K × V) (k : K) → i < length es
    → (get_or es i d).0 ≡ get_or (keys_of es) i k
key_at_place [] i d k l = absurd (omega arith)
key_at_place (e ∷ es) zero d k l = refl
key_at_place (e ∷ es) (suc i) d k l = key_at_place es i d k (omega arith)

pub keys_length : {K V : Type 0} (es : List (K × V)) → length (keys_of es) ≡ length es
keys_length [] = refl
keys_length (x ∷ xs) = ap suc (keys_length xs)

module _ {K V : Type 0} (R : K → K → Ordering) where
  below_key : (x : K) (es : List (K × V)) (j : ℕ) (d : K) → IsTrue (below_all R x es) → j < length es → R x (get_or (keys_of es) j d) ≡ Less
  below_key x [] j d h l = absurd (omega arith)
  below_key x (e ∷ es) zero d h l = is_less _ (and_parts _ _ h).0
  below_key x (e ∷ es) (suc j) d h l = below_key x es j d (and_parts _ _ h).1 (omega arith)

  pub keys_ascend : (es : List (K × V)) (i j : ℕ) (d : K) → IsTrue (is_sorted R es) → i < j → j < length es
      → R (get_or (keys_of es) i d) (get_or (keys_of es) j d) ≡ Less
  keys_ascend [] i j d s l m = absurd (omega arith)
  keys_ascend (e ∷ es) i zero d s l m = absurd (omega arith)
  keys_ascend (e ∷ es) zero (suc j) d s l m = below_key e.0 es j d (and_parts _ _ s).0 (omega arith)
  keys_ascend (e ∷ es) (suc i) (suc j) d s l m = keys_ascend es i j d (and_parts _ _ s).1 (omega arith) (omega arith)

  -- a search for the key at a place finds the value there
  pub find_place : IsTotalOrder R → (es : List (K × V)) (i : ℕ) (k : K) (d : K × V) → IsTrue (is_sorted R es) → i < length es
      → find R (get_or (keys_of es) i k) es ≡ Some (get_or es i d).1
  find_place o [] i k d s l = absurd (omega arith)
  find_place o (e ∷ es) zero k d s l = ap (λ r. cond (is_eq r) (Some e.1) (find R e.0 es)) (tied_itself o e.0)
  find_place o (e ∷ es) (suc i) k d s l =
      let below = below_key e.0 es i k (and_parts _ _ s).0 (omega arith) in
      let key = get_or (keys_of es) i k in
      ap (λ r. cond (is_eq r) (Some e.1) (find R key es)) (turned R o e.0 key Less below)
      ∙ find_place o es i k d (and_parts _ _ s).1 (omega arith)

  -- a key that is found has a place
  pub place_of_found : IsAntisymmetric R → (k : K) (es : List (K × V)) (v : V) (d : K) → find R k es ≡ Some v
      → (i : ℕ) × ((i < length es) × (get_or (keys_of es) i d ≡ k))
  place_of_found exact k [] v d h = absurd (none-some _ h)
  place_of_found exact k (e ∷ es) v d h = by (R k e.0) refl h (place_of_found exact k es v d)
    where
      later : (i : ℕ) × ((i < length es) × (get_or (keys_of es) i d ≡ k))
          → (i : ℕ) × ((i < length (e ∷ es)) × (get_or (keys_of (e ∷ es)) i d ≡ k))
      later r = let l = r.1.0 in (suc r.0, (omega arith, r.1.1))

      by : (r : Ordering) → R k e.0 ≡ r → cond (is_eq r) (Some e.1) (find R k es) ≡ Some v
          → (find R k es ≡ Some v → (i : ℕ) × ((i < length es) × (get_or (keys_of es) i d ≡ k)))
          → (i : ℕ) × ((i < length (e ∷ es)) × (get_or (keys_of (e ∷ es)) i d ≡ k))
      by Less c f more = later (more f)
      by Equal c f more = (0, (omega arith, sym (exact k e.0 c)))
      by Greater c f more = later (more f)

-- the keys alone decide whether pairs are sorted
module _ {K V W : Type 0} (R : K → K → Ordering) where
  below_by_keys : (x : K) (es : List (K × V)) (fs : List (K × W)) → keys_of es ≡ keys_of fs → below_all R x es ≡ below_all R x fs
  below_by_keys x [] [] h = refl
  below_by_keys x [] (f ∷ fs) h = cc (h)
  below_by_keys x (e ∷ es) [] h = cc (h)
  below_by_keys x (e ∷ es) (f ∷ fs) h =
      let first : e.0 ≡ f.0 = cc (h) in
      let rest : below_all R x es ≡ below_all R x fs = below_by_keys x es fs (cc (h)) in
      ap (λ k. is_lt (R x k) && below_all R x es) first ∙ ap (λ b. is_lt (R x f.0) && b) rest

  pub sorted_by_keys : (es : List (K × V)) (fs : List (K × W)) → keys_of es ≡ keys_of fs → is_sorted R es ≡ is_sorted R fs
  sorted_by_keys [] [] h = refl
  sorted_by_keys [] (f ∷ fs) h = cc (h)
  sorted_by_keys (e ∷ es) [] h = cc (h)
  sorted_by_keys (e ∷ es) (f ∷ fs) h =
      let first : e.0 ≡ f.0 = cc (h) in
      let keys : keys_of es ≡ keys_of fs = cc (h) in
      let below : below_all R e.0 es ≡ below_all R f.0 fs = ap (λ k. below_all R k es) first ∙ below_by_keys f.0 es fs keys in
      let rest : is_sorted R es ≡ is_sorted R fs = sorted_by_keys es fs keys in
      ap (λ b. b && is_sorted R es) below ∙ ap (λ b. below_all R f.0 fs && b) rest

-- pairs with strictly ascending keys are sorted
module _ {K V : Type 0} (R : K → K → Ordering) where
  below_from : (x : K) (es : List (K × V)) → AllByRecursion (λ y. R x y ≡ Less) (keys_of es) → IsTrue (below_all R x es)
  below_from x [] h = refl
  below_from x (e ∷ es) h = and_from _ _ (ap is_lt h.0) (below_from x es h.1)

  pub sorted_from_keys : (es : List (K × V)) → IsStrictlySortedBy R (keys_of es) → IsTrue (is_sorted R es)
  sorted_from_keys [] h = refl
  sorted_from_keys (e ∷ es) h = and_from _ _ (below_from e.0 es (sorted_head R e.0 (keys_of es) h)) (sorted_from_keys es (sorted_tail R e.0 (keys_of es) h))

-- the key that a search finds is the one at that place
pub key_found : {K V : Type 0} (R : K → K → Ordering) → IsAntisymmetric R → (k : K) (es : List (K × V)) (i : ℕ) (d : K)
    → IsAt R k es i → get_or (keys_of es) i d ≡ k
key_found R exact k [] i d a = absurd a
key_found R exact k (e ∷ es) zero d a = sym (exact k e.0 a)
key_found R exact k (e ∷ es) (suc i) d a = key_found R exact k es i d a.1
