-- How many chosen nodes each node still waits for.
use Rattle.std.proofs.Common.{◌&&◌, ◌++◌, ◌+◌, ◌<◌, ◌↔◌, ◌∷◌, ◌≡◌, ◌≤◌, ◌⊎◌}
use Rattle.start_order.proofs.Prelude.{[], ap, arith, Bool, cases_eq, cases_lt, cond, count-push, eq-eqb, eqb, false, get_or, get_or-set_other, get_or-set_same, get_or_past, inl, inr, IsAmong, IsAmong-append_left, IsAmong-push, IsAmong-push_cases, IsLowered, IsMember, IsMember-set_same, length, length-set, List, ne_eqb, neighbors, neighbors-past, not, refl, set, subst, suc, sym, take, take_more, times, times-push_other, times-push_same, true, waiting, waits, ℕ, ◌∙◌}

-- ---- what waits

pub waiting-push : (c s : List Bool) (xs : List ℕ) (x : ℕ) → waiting c s (xs ++ x ∷ []) ≡ waiting c s xs + cond (waits c s x) 1 0
waiting-push c s xs x = count-push (waiting c s) (waits c s) (λ y ys. refl) xs x

waits_when : (a b : Bool) → (a ≡ true → b ≡ true) → (a && not b) ≡ false
waits_when true true h = refl
waits_when true false h = let e = h refl in cc
waits_when false b h = refl

waits_false : (a b : Bool) → (a && not b) ≡ false → a ≡ true → b ≡ true
waits_false true true e f = refl
waits_false true false e f = sym e
waits_false false b e f = cc

waits_here : (a b : Bool) → a ≡ true → (b ≡ true → ⊥) → (a && not b) ≡ true
waits_here true true e f = absurd (f refl)
waits_here true false e f = refl
waits_here false b e f = cc

zero_at : (b : Bool) (w : ℕ) → cond b (suc w) w ≡ 0 → (b ≡ false) × (w ≡ 0)
zero_at true w e = absurd (omega arith)
zero_at false w e = (refl, e)

pub waiting-ready : (c s : List Bool) (xs : List ℕ) → waiting c s xs ≡ 0 → (v : ℕ) → IsMember c v → IsAmong v xs → IsMember s v
waiting-ready c s [] e v m h = absurd h
waiting-ready c s (x ∷ xs) e v m h =
    let z = zero_at (waits c s x) (waiting c s xs) e in
    elim h [
      | inl same ↦ (let P : ℕ → Type 0 = λ w. IsMember c w → IsMember s w in subst P same (waits_false _ _ z.0) m)
      | inr t ↦ waiting-ready c s xs z.1 v m t
    ]

pub waiting-none : (c s : List Bool) (xs : List ℕ) → ((v : ℕ) → IsMember c v → IsAmong v xs → IsMember s v) → waiting c s xs ≡ 0
waiting-none c s [] h = refl
waiting-none c s (x ∷ xs) h =
    ap (λ (b : Bool). cond b (suc (waiting c s xs)) (waiting c s xs)) (waits_when _ _ (λ m. h x m (inl refl)))
    ∙ waiting-none c s xs (λ v m k. h v m (inr k))

three : (a b c : Bool) (s t w : ℕ) → cond a 1 0 + cond b 1 0 ≡ cond c 1 0 → s + t ≡ w → cond a (suc s) s + cond b (suc t) t ≡ cond c (suc w) w
three true true true s t w e f = absurd (omega arith)
three true true false s t w e f = absurd (omega arith)
three true false true s t w e f = omega arith
three true false false s t w e f = absurd (omega arith)
three false true true s t w e f = omega arith
three false true false s t w e f = absurd (omega arith)
three false false true s t w e f = absurd (omega arith)
three false false false s t w e f = f

one_waits : (a b c : Bool) → a ≡ false → b ≡ true → c ≡ true → cond a 1 0 + cond b 1 0 ≡ cond c 1 0
one_waits false true true e f g = refl
one_waits true b c e f g = cc
one_waits false false c e f g = cc
one_waits false true false e f g = cc

none_waits : (a b c : Bool) → a ≡ c → b ≡ false → cond a 1 0 + cond b 1 0 ≡ cond c 1 0
none_waits true false true e f = refl
none_waits false false false e f = refl
none_waits a true c e f = cc
none_waits true false false e f = cc
none_waits false false true e f = cc

-- once u is started, no node waits for it
pub waiting-set : (c s : List Bool) (u : ℕ) → u < length s → IsMember c u → (IsMember s u → ⊥) → (xs : List ℕ) → waiting c (set s u true) xs + times u xs ≡ waiting c s xs
waiting-set c s u lt m out [] = refl
waiting-set c s u lt m out (x ∷ xs) = three (waits c (set s u true) x) (eqb x u) (waits c s x) _ _ _ here (waiting-set c s u lt m out xs)
  where
    same : x ≡ u → cond (waits c (set s u true) x) 1 0 + cond (eqb x u) 1 0 ≡ cond (waits c s x) 1 0
    same e =
        let P : ℕ → Type 0 = λ w. waits c (set s u true) w ≡ false in
        let Q : ℕ → Type 0 = λ w. waits c s w ≡ true in
        one_waits _ _ _ (subst P (sym e) (waits_when _ _ (λ _. IsMember-set_same s u lt))) (eq-eqb x u e) (subst Q (sym e) (waits_here _ _ m out))

    here : cond (waits c (set s u true) x) 1 0 + cond (eqb x u) 1 0 ≡ cond (waits c s x) 1 0
    here = elim (cases_eq x u) [
      | inl e ↦ same e
      | inr ne ↦ none_waits _ _ _ (ap (λ (b : Bool). get_or c x false && not b) (get_or-set_other s u x true false ne)) (ne_eqb x u ne)
    ]

-- ---- decrementing

pub IsLowered-none : (chosen : List Bool) (old keys : List ℕ) → IsLowered chosen [] old old keys keys
IsLowered-none chosen old keys = record {
  units = refl;
  counts = λ v. omega arith;
  keys = λ v. ((λ h. inl h), (λ h. elim h [ inl k ↦ k | inr k ↦ absurd k.1 ]));
}

pub IsLowered-more : (chosen : List Bool) (neighbors old new keys after later : List ℕ) (x n : ℕ) → IsLowered chosen neighbors old new keys after → x < length new → get_or new x 0 ≡ n + 1
    → ((v : ℕ) → IsAmong v later ↔ (IsAmong v after ⊎ ((x ≡ v) × IsMember chosen x × (n ≡ 0))))
    → IsLowered chosen (neighbors ++ x ∷ []) old (set new x n) keys later
IsLowered-more chosen neighbors old new keys after later x n h lt at l = record {
  units = length-set new x n ∙ h.units;
  counts = counts;
  keys = λ v. (to v, from v);
}
  where
    same : (v : ℕ) → x ≡ v → get_or (set new x n) v 0 ≡ n
    same v e = let P : ℕ → Type 0 = λ w. get_or (set new x n) w 0 ≡ n in subst P e (get_or-set_same new x n 0 lt)

    other : (v : ℕ) → (x ≡ v → ⊥) → get_or (set new x n) v 0 ≡ get_or new v 0
    other v ne = get_or-set_other new x v n 0 (λ e. ne (sym e))

    at_v : (v : ℕ) → x ≡ v → get_or new v 0 ≡ n + 1
    at_v v e = let P : ℕ → Type 0 = λ w. get_or new w 0 ≡ n + 1 in subst P e at

    counts : (v : ℕ) → get_or (set new x n) v 0 + times v (neighbors ++ x ∷ []) ≡ get_or old v 0
    counts v = let b = h.counts v in elim (cases_eq x v) [
      | inl e ↦ (let a = same v e in let d = times-push_same v neighbors x e in let f = at_v v e in omega (arith, a, b, d, f))
      | inr ne ↦ (let a = other v ne in let d = times-push_other v neighbors x ne in omega (arith, a, b, d))
    ]

    to : (v : ℕ) → IsAmong v later → IsAmong v keys ⊎ (IsMember chosen v × IsAmong v (neighbors ++ x ∷ []) × (get_or (set new x n) v 0 ≡ 0))
    to v k = elim ((l v).0 k) [
      | inl a ↦ elim ((h.keys v).0 a) [
        | inl b ↦ inl b
        | inr b ↦ (let ne : x ≡ v → ⊥ = λ e. (let f = at_v v e in let z : get_or new v 0 ≡ 0 = b.2 in omega (arith, f)) in
            inr (b.0, IsAmong-append_left v neighbors (x ∷ []) b.1, other v ne ∙ b.2))
      ]
      | inr a ↦ (let P : ℕ → Type 0 = λ w. IsAmong w (neighbors ++ x ∷ []) in
          inr (subst (IsMember chosen) a.0 a.1, subst P a.0 (IsAmong-push x neighbors), same v a.0 ∙ a.2))
    ]

    from : (v : ℕ) → IsAmong v keys ⊎ (IsMember chosen v × IsAmong v (neighbors ++ x ∷ []) × (get_or (set new x n) v 0 ≡ 0)) → IsAmong v later
    from v k = elim k [
      | inl a ↦ (l v).1 (inl ((h.keys v).1 (inl a)))
      | inr a ↦ elim (cases_eq x v) [
        | inl e ↦ (l v).1 (inr (e, subst (IsMember chosen) (sym e) a.0, sym (same v e) ∙ a.2))
        | inr ne ↦ elim (IsAmong-push_cases x v neighbors a.1) [
          | inl b ↦ (l v).1 (inl ((h.keys v).1 (inr (a.0, b, sym (other v ne) ∙ a.2))))
          | inr e ↦ absurd (ne e)
        ]
      ]
    ]

pub IsLowered-at : (chosen : List Bool) (neighbors other old new had has : List ℕ) → other ≡ neighbors → IsLowered chosen neighbors old new had has → IsLowered chosen other old new had has
IsLowered-at chosen neighbors other old new had has e h = let P : List ℕ → Type 0 = λ r. IsLowered chosen r old new had has in subst P (sym e) h

-- the keys after an iteration that adds one, and after one that doesn't
pub later_yes : (chosen : List Bool) (x n : ℕ) (after added later : List ℕ) → IsMember chosen x → n ≡ 0 → later ≡ added → ((v : ℕ) → IsAmong v added ↔ (IsAmong v after ⊎ (x ≡ v)))
    → (v : ℕ) → IsAmong v later ↔ (IsAmong v after ⊎ ((x ≡ v) × IsMember chosen x × (n ≡ 0)))
later_yes chosen x n after added later m z e h v =
    let P : List ℕ → Type 0 = λ l. IsAmong v l ↔ (IsAmong v after ⊎ ((x ≡ v) × IsMember chosen x × (n ≡ 0))) in
    subst P (sym e) (
      (λ k. elim ((h v).0 k) [ inl a ↦ inl a | inr f ↦ inr (f, m, z) ]),
      (λ k. elim k [ inl a ↦ (h v).1 (inl a) | inr f ↦ (h v).1 (inr f.0) ]),
    )

pub later_no : (chosen : List Bool) (x n : ℕ) (after later : List ℕ) → (IsMember chosen x → n ≡ 0 → ⊥) → later ≡ after
    → (v : ℕ) → IsAmong v later ↔ (IsAmong v after ⊎ ((x ≡ v) × IsMember chosen x × (n ≡ 0)))
later_no chosen x n after later out e v =
    let P : List ℕ → Type 0 = λ l. IsAmong v l ↔ (IsAmong v after ⊎ ((x ≡ v) × IsMember chosen x × (n ≡ 0))) in
    subst P (sym e) ((λ k. inl k), (λ k. elim k [ inl a ↦ a | inr f ↦ absurd (out f.1 f.2) ]))

-- ---- counting what waits

pub waiting_yes : (c s : List Bool) (xs : List ℕ) (i : ℕ) → i < length xs → waits c s (get_or xs i 0) ≡ true → waiting c s (take (i + 1) xs) ≡ waiting c s (take i xs) + 1
waiting_yes c s xs i lt e = ap (waiting c s) (take_more xs i 0 lt) ∙ waiting-push c s (take i xs) (get_or xs i 0) ∙ ap (λ (b : Bool). waiting c s (take i xs) + cond b 1 0) e

pub waiting_no : (c s : List Bool) (xs : List ℕ) (i : ℕ) → i < length xs → waits c s (get_or xs i 0) ≡ false → waiting c s (take (i + 1) xs) ≡ waiting c s (take i xs)
waiting_no c s xs i lt e =
    let z : waiting c s (take i xs) + 0 ≡ waiting c s (take i xs) = omega arith in
    ap (waiting c s) (take_more xs i 0 lt) ∙ waiting-push c s (take i xs) (get_or xs i 0) ∙ ap (λ (b : Bool). waiting c s (take i xs) + cond b 1 0) e ∙ z

pub both_hold : (a b : Bool) → a ≡ true → b ≡ false → (a && not b) ≡ true
both_hold true false e f = refl
both_hold false b e f = cc
both_hold true true e f = cc

pub first_fails : (a b : Bool) → a ≡ false → (a && not b) ≡ false
first_fails false b e = refl
first_fails true b e = cc

pub second_fails : (a b : Bool) → b ≡ true → (a && not b) ≡ false
second_fails false b e = refl
second_fails true true e = refl
second_fails true false e = cc

-- ---- the free units so far

module _ (chosen : List Bool) (counts : List ℕ) (i : ℕ) where
  pub free_yes : (old added new : List ℕ) → ((v : ℕ) → IsAmong v old ↔ ((v < i) × IsMember chosen v × (get_or counts v 0 ≡ 0))) → IsMember chosen i → get_or counts i 0 ≡ 0
      → new ≡ added → ((v : ℕ) → IsAmong v added ↔ (IsAmong v old ⊎ (i ≡ v))) → (v : ℕ) → IsAmong v new ↔ ((v < i + 1) × IsMember chosen v × (get_or counts v 0 ≡ 0))
  free_yes old added new h m z e a v =
      let P : List ℕ → Type 0 = λ l. IsAmong v l ↔ ((v < i + 1) × IsMember chosen v × (get_or counts v 0 ≡ 0)) in
      let Q : ℕ → Type 0 = λ w. get_or counts w 0 ≡ 0 in
      subst P (sym e) (
        (λ k. elim ((a v).0 k) [
          | inl b ↦ (let f = (h v).0 b in let l : v < i = f.0 in (omega arith, f.1, f.2))
          | inr same ↦ (omega arith, subst (IsMember chosen) same m, subst Q same z)
        ]),
        (λ k. elim (cases_eq i v) [
          | inl same ↦ (a v).1 (inr same)
          | inr ne ↦ (let l : v < i + 1 = k.0 in let s : v < i = below_still v l ne in (a v).1 (inl ((h v).1 (s, k.1, k.2))))
        ]),
      )
    where
      below_still : (v : ℕ) → v < i + 1 → (i ≡ v → ⊥) → v < i
      below_still v l ne = omega arith

  pub free_no : (old new : List ℕ) → ((v : ℕ) → IsAmong v old ↔ ((v < i) × IsMember chosen v × (get_or counts v 0 ≡ 0))) → (IsMember chosen i → get_or counts i 0 ≡ 0 → ⊥)
      → new ≡ old → (v : ℕ) → IsAmong v new ↔ ((v < i + 1) × IsMember chosen v × (get_or counts v 0 ≡ 0))
  free_no old new h out e v =
      let P : List ℕ → Type 0 = λ l. IsAmong v l ↔ ((v < i + 1) × IsMember chosen v × (get_or counts v 0 ≡ 0)) in
      let Q : ℕ → Type 0 = λ w. get_or counts w 0 ≡ 0 in
      subst P (sym e) (
        (λ k. (let f = (h v).0 k in let l : v < i = f.0 in (omega arith, f.1, f.2))),
        (λ k. elim (cases_eq i v) [
          | inl same ↦ absurd (out (subst (IsMember chosen) (sym same) k.1) (subst Q (sym same) k.2))
          | inr ne ↦ (let l : v < i + 1 = k.0 in let s : v < i = below_still v l ne in (h v).1 (s, k.1, k.2))
        ]),
      )
    where
      below_still : (v : ℕ) → v < i + 1 → (i ≡ v → ⊥) → v < i
      below_still v l ne = omega arith

-- counts that are right below the number of units are right everywhere
pub counted_all : (c s : List Bool) (before : List (List ℕ)) (counts : List ℕ) (n : ℕ) → length before ≡ n → length counts ≡ n
    → ((v : ℕ) → v < n → get_or counts v 0 ≡ waiting c s (neighbors before v)) → (v : ℕ) → get_or counts v 0 ≡ waiting c s (neighbors before v)
counted_all c s before counts n p q h v = elim (cases_lt v n) [
  | inl l ↦ h v l
  | inr l ↦ (let a : length counts ≤ v = omega arith in
      let b : length before ≤ v = omega arith in
      get_or_past counts v 0 a ∙ sym (ap (waiting c s) (neighbors-past before v b)))
]
