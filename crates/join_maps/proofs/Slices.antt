-- A walk that joins copies of pairs, some at a time, in order.
use Rattle.std.proofs.Common.{◌==◌, ◌++◌, ◌+◌, ◌-◌, ◌<◌, ◌∷◌, ◌≡◌, ◌≢◌, ◌≤◌}
use Rattle.join_maps.proofs.Prelude.{[], AllHeld, and_parts, ap, append-nil, append_assoc, arith, below_all, Bool, drop, eq-eqb, eqb-true, false, find, get_or, inl, inr, is_sorted, IsBetween, IsJoin, IsMap, IsRoomFor, IsSinglePair, IsTotalOrder, IsTrue, length, length-take, List, map_chain, map_itself, MapBelow, None, Ordering, refl, subst, suc, sym, take, take-append-drop, true, zero, ℕ, ◌∙◌}
use Rattle.chunked_pairs.specs.{Chunks.{AllKeys}, Searches.{both}}
use Rattle.join_maps.proofs.RunEdits.{below_parts}

module _ {K V : Type 0} (R : K → K → Ordering) (below : V → V → Type 0) where
  -- the pairs before those that are left are joined
  pub record IsPassed (first now other left : List (K × V)) : Type 0 where
    pub passed : List (K × V)
    pub parts : other ≡ passed ++ left
    pub joined : IsJoin (MapBelow R below) first passed now
    pub start : passed ≡ [] → now ≡ first

  second_map : (valid : V → Type 0) (xs ys : List (K × V)) → IsMap R below valid (xs ++ ys) → IsMap R below valid ys
  second_map valid xs ys m = record { sorted = sorted xs ys m.sorted; held = held xs ys m.held }
    where
      sorted : (xs ys : List (K × V)) → IsTrue (is_sorted R (xs ++ ys)) → IsTrue (is_sorted R ys)
      sorted [] ys h = h
      sorted (x ∷ xs) ys h = sorted xs ys (and_parts _ _ h).1

      held : (xs ys : List (K × V)) → AllHeld below valid (xs ++ ys) → AllHeld below valid ys
      held [] ys h = h
      held (x ∷ xs) ys h = held xs ys h.1

module _ {K V : Type 0} (R : K → K → Ordering) (o : IsTotalOrder R) (valid : V → Type 0) (below : V → V → Type 0) (itself : (x : V) → below x x) (chain : (x y z : V) → below x y → below y z → below x z) where
  below_front : (x : K) (xs ys : List (K × V)) → IsTrue (below_all R x (xs ++ ys)) → IsTrue (below_all R x xs)
  below_front x [] ys h = refl
  below_front x (e ∷ xs) ys h = both _ _ (and_parts _ _ h).0 (below_front x xs ys (and_parts _ _ h).1)

  sorted_front : (xs ys : List (K × V)) → IsTrue (is_sorted R (xs ++ ys)) → IsTrue (is_sorted R xs)
  sorted_front [] ys h = refl
  sorted_front (x ∷ xs) ys h = both _ _ (below_front x.0 xs ys (and_parts _ _ h).0) (sorted_front xs ys (and_parts _ _ h).1)

  front_held : (xs ys : List (K × V)) → AllHeld below valid (xs ++ ys) → AllHeld below valid xs
  front_held [] ys h = tt
  front_held (x ∷ xs) ys h = (h.0, front_held xs ys h.1)

  -- the first pairs of a map
  pub taken_is_map : (es : List (K × V)) (n : ℕ) → IsMap R below valid es → IsMap R below valid (take n es)
  taken_is_map es n m =
      let whole = subst (IsMap R below valid) (sym (take-append-drop n es)) m in
      record { sorted = sorted_front (take n es) (drop n es) whole.sorted; held = front_held (take n es) (drop n es) whole.held }

  pub taken_below : (es : List (K × V)) (n : ℕ) (z : List (K × V)) → IsMap R below valid es → MapBelow R below es z → MapBelow R below (take n es) z
  taken_below es n z m h =
      let whole = subst (IsMap R below valid) (sym (take-append-drop n es)) m in
      ((below_parts R o below itself chain (take n es) (drop n es) z whole.sorted).0 (subst (λ l. MapBelow R below l z) (sym (take-append-drop n es)) h)).0

  -- what lies between with the first pairs lies between with all
  pub taken_between : (first es new : List (K × V)) (n : ℕ) → IsMap R below valid es → IsBetween (MapBelow R below) first (take n es) new → IsBetween (MapBelow R below) first es new
  taken_between first es new n m b = record { kept = b.kept; within = λ z p q. b.within z p (taken_below es n z m q) }

  -- the first part of what is left
  pub front_is_map : (part rest : List (K × V)) → IsMap R below valid (part ++ rest) → IsMap R below valid part
  front_is_map part rest m = record { sorted = sorted_front part rest m.sorted; held = front_held part rest m.held }

  pub front_known : (left z part rest : List (K × V)) → left ≡ part ++ rest → IsMap R below valid left → MapBelow R below left z → MapBelow R below part z
  front_known left z part rest e m h =
      let whole = subst (IsMap R below valid) e m in
      ((below_parts R o below itself chain part rest z whole.sorted).0 (subst (λ l. MapBelow R below l z) e h)).0

  pub front_between : (first new left part rest : List (K × V)) → left ≡ part ++ rest → IsMap R below valid left → IsBetween (MapBelow R below) first part new → IsBetween (MapBelow R below) first left new
  front_between first new left part rest e m b = record { kept = b.kept; within = λ z p q. b.within z p (front_known left z part rest e m q) }

  pub passed_none : (first other : List (K × V)) → IsPassed R below first first other other
  passed_none first other = record {
    passed = [];
    parts = refl;
    joined = record { bounds = λ z. (λ h. (h, record { at = λ q. tt }), λ p. p.0) };
    start = λ e. refl;
  }

  module _ (first now other left : List (K × V)) (p : IsPassed R below first now other left) (m : IsMap R below valid other) where
    other_is_map : IsMap R below valid (p.passed ++ left)
    other_is_map = subst (IsMap R below valid) p.parts m

    pub left_is_map : IsMap R below valid left
    left_is_map = second_map R below valid p.passed left other_is_map

    pub left_below : (z : List (K × V)) → MapBelow R below other z → MapBelow R below p.passed z × MapBelow R below left z
    left_below z h = (below_parts R o below itself chain p.passed left z other_is_map.sorted).0 (subst (λ l. MapBelow R below l z) p.parts h)

    -- what is left is known, if all is
    pub left_known : MapBelow R below other first → MapBelow R below left now
    left_known h = map_chain below itself chain R left first now (left_below first h).1 ((p.joined.bounds now).0 (map_itself below itself chain R now)).0

    -- a single pair is left alone
    alone : (is_single : V → Type 0) → 0 < length left → IsSinglePair is_single other → (p.passed ≡ []) × (left ≡ other)
    alone is_single some s = by_passed p.passed left p.parts some s
      where
        by_passed : (xs ys : List (K × V)) → other ≡ xs ++ ys → 0 < length ys → IsSinglePair is_single other → (xs ≡ []) × (ys ≡ other)
        by_passed [] ys e some s = (refl, sym e)
        by_passed (x ∷ xs) [] e some s = absurd (omega (arith, some))
        by_passed (x ∷ []) (y ∷ ys) e some s = absurd (subst (IsSinglePair is_single) e s)
        by_passed (x ∷ x' ∷ xs) (y ∷ ys) e some s = absurd (subst (IsSinglePair is_single) e s)

    -- the next ones are joined
    pub passed_more : (part rest new : List (K × V)) → left ≡ part ++ rest → 0 < length part → IsJoin (MapBelow R below) now part new → IsPassed R below first new other rest
    passed_more part rest new e some j = record {
      passed = p.passed ++ part;
      parts = whole;
      joined = record {
        bounds = λ z.
            let two = below_parts R o below itself chain p.passed part z (sorted_front (p.passed ++ part) rest (subst (λ l. IsTrue (is_sorted R l)) whole m.sorted)) in (
              λ h. let a = (j.bounds z).0 h in let b = (p.joined.bounds z).0 a.0 in (b.0, two.1 (b.1, a.1)),
              λ h. let a = two.0 h.1 in (j.bounds z).1 ((p.joined.bounds z).1 (h.0, a.0), a.1),
            );
      };
      start = λ none. absurd (not_empty p.passed part some none);
    }
      where
        whole : other ≡ (p.passed ++ part) ++ rest
        whole = p.parts ∙ ap (λ l. p.passed ++ l) e ∙ sym (append_assoc p.passed part rest)

        not_empty : (xs ys : List (K × V)) → 0 < length ys → ¬ (xs ++ ys ≡ [])
        not_empty [] [] some e = absurd (omega (arith, some))
        not_empty [] (y ∷ ys) some e = cc (e)
        not_empty (x ∷ xs) ys some e = cc (e)

    pub passed_between : (new : List (K × V)) → IsBetween (MapBelow R below) now left new → IsBetween (MapBelow R below) first other new
    passed_between new b = record {
      kept = map_chain below itself chain R first now new ((p.joined.bounds now).0 (map_itself below itself chain R now)).0 b.kept;
      within = λ z f h. let a = left_below z h in b.within z ((p.joined.bounds z).1 (f, a.0)) a.1;
    }

    pub passed_single : (is_single : V → Type 0) (new : List (K × V)) → 0 < length left → (IsSinglePair is_single left → new ≡ now) → IsSinglePair is_single other → new ≡ first
    passed_single is_single new some h s =
        let a = alone is_single some s in
        h (subst (IsSinglePair is_single) (sym a.1) s) ∙ p.start a.0

  pub passed_all : (first now other : List (K × V)) → IsPassed R below first now other [] → IsJoin (MapBelow R below) first other now
  passed_all first now other p = subst (λ l. IsJoin (MapBelow R below) first l now) (sym (p.parts ∙ append-nil p.passed)) p.joined

-- What a test for emptiness tells.

pub none_left : {A : Type 0} (xs : List A) (b : Bool) → b ≡ (length xs == 0) → b ≡ true → xs ≡ []
none_left [] b e t = refl
none_left (x ∷ xs) b e t = let n = eqb-true (length (x ∷ xs)) 0 (sym e ∙ t) in absurd (omega (arith, n))

pub some_left : {A : Type 0} (xs : List A) (b : Bool) → b ≡ (length xs == 0) → b ≡ false → 0 < length xs
some_left [] b e t = let n = eq-eqb 0 0 refl in cc (n, e, t)
some_left (x ∷ xs) b e t = omega arith

-- the first of some pairs are some
pub some_taken : {A : Type 0} (xs : List A) (n : ℕ) → 0 < n → n ≤ length xs → 0 < length (take n xs)
some_taken xs n some le = omega (arith, some, le, length-take n xs)

-- keys of fewer pairs
pub fewer_keys : {K V : Type 0} (P : K → Type 0) (es : List (K × V)) (n m : ℕ) → n ≤ m → AllKeys P (take m es) → AllKeys P (take n es)
fewer_keys P [] zero m le h = tt
fewer_keys P [] (suc n) m le h = tt
fewer_keys P (e ∷ es) zero m le h = tt
fewer_keys P (e ∷ es) (suc n) zero le h = absurd (omega arith)
fewer_keys P (e ∷ es) (suc n) (suc m) le h = (h.0, fewer_keys P es n m (omega arith) h.1)

-- a run has room for as many of some pairs, the first of which has room there
pub room_for_some : {K V : Type 0} (R : K → K → Ordering) (run es : List (K × V)) (d : K × V) (n room : ℕ) → 0 < length es → n ≤ room → (length run < 128 → length run + room ≤ 128) → (128 ≤ length run → room ≤ 1) → (find R (get_or es 0 d).0 run ≡ None → length run < 128) → IsRoomFor R run (take n es)
room_for_some R run [] d n room some le small full first = absurd (omega (arith, some))
room_for_some {K} {V} R run (e ∷ es) d n room some le small full first = by_space (128 - length run) refl
  where
    taken : (n : ℕ) → n ≤ 1 → AllKeys (λ q. find R q run ≢ None) (e ∷ []) → AllKeys (λ q. find R q run ≢ None) (take n (e ∷ es))
    taken zero lt h = tt
    taken (suc zero) lt h = (h.0, none es)
      where
        none : (xs : List (K × V)) → AllKeys (λ q. find R q run ≢ None) (take 0 xs)
        none [] = tt
        none (x ∷ xs) = tt
    taken (suc (suc n)) lt h = absurd (omega arith)

    by_space : (space : ℕ) → space ≡ 128 - length run → IsRoomFor R run (take n (e ∷ es))
    by_space zero e0 = inr (taken n (omega (arith, le, full (omega (arith, e0)))) ((λ none. let lt = first none in absurd (omega (arith, e0, lt))), tt))
    by_space (suc space) e0 = inl (omega (arith, le, small (omega (arith, e0)), length-take n (e ∷ es)))

pub front_single : {K V : Type 0} (is_single : V → Type 0) (left part rest : List (K × V)) → left ≡ part ++ rest → 0 < length part → IsSinglePair is_single left → IsSinglePair is_single part
front_single is_single left [] rest e some s = absurd (omega (arith, some))
front_single is_single left (x ∷ []) [] e some s = subst (IsSinglePair is_single) e s
front_single is_single left (x ∷ []) (y ∷ rest) e some s = absurd (subst (IsSinglePair is_single) e s)
front_single is_single left (x ∷ x' ∷ part) rest e some s = absurd (subst (IsSinglePair is_single) e s)
