-- Where the first components of paths are cut: at their first stop.
use Rattle.std.proofs.Common.{◌++◌, ◌+◌, ◌-◌, ◌<◌, ◌∷◌, ◌≡◌, ◌≢◌, ◌≤◌, ◌⊎◌}
use Rattle.parallel_load.proofs.Prelude.{[], ap, arith, Bool, cases_Bool, cond, cond-false, cond-true, drop, EndsInDash, false, get_or, HasNoStop, inl, inr, is_stop, IsSearchPrefixOf, length, List, list_any, ltb-false, ltb-true, None, not, or_from, passes_at_first, position, position_or_len, refl, Some, split_at_first, subst, suc, sym, take, take_all, take_more, true, zero, ℕ, ⊎_elim, ◌∙◌}

-- no stop is before the first one
none_before : (xs : List ℕ) → HasNoStop (take (position_or_len is_stop xs) xs)
none_before [] = refl
none_before (x ∷ xs) = by (is_stop x) refl (none_before xs)
  where
    n : ℕ
    n = position_or_len is_stop xs

    F : Bool → Bool
    F b = list_any is_stop (take (cond (not b) (1 + n) 0) (x ∷ xs))

    by : (b : Bool) → is_stop x ≡ b → HasNoStop (take n xs) → F (is_stop x) ≡ false
    by true e more = ap F e
    by false e more =
        let one : 1 + n ≡ suc n = omega arith in
        ap F e ∙ ap (λ (k : ℕ). list_any is_stop (take k (x ∷ xs))) one ∙ or_from (is_stop x) (list_any is_stop (take n xs)) e more

-- a component is cut at its first stop
pub record IsCutAt (part : List ℕ) (i : ℕ) : Type 0 where
  pub within : i < length part
  pub is : part ≡ take i part ++ get_or part i 0 ∷ drop (i + 1) part
  pub plain : HasNoStop (take i part)
  pub stopped : is_stop (get_or part i 0) ≡ true

pub cut_at : (part : List ℕ) (i : ℕ) → position is_stop part ≡ Some i → IsCutAt part i
cut_at part i e = ⊎_elim
    (λ found.
    let same : Some (position_or_len is_stop part) ≡ Some i = sym (cond-true _ _ _ found) ∙ e in
    let at : position_or_len is_stop part ≡ i = cc in
    let below : position_or_len is_stop part < length part = ltb-true _ _ found in
    subst (IsCutAt part) at (record { within = below; is = split_at_first is_stop part 0 below; plain = none_before part; stopped = passes_at_first is_stop part 0 below }))
    (λ past. let same : None ≡ Some i = sym (cond-false _ _ _ past) ∙ e in cc)
    (cases_Bool _)

-- or it has none
pub cut_nowhere : (part : List ℕ) → position is_stop part ≡ None → HasNoStop part
cut_nowhere part e = ⊎_elim
    (λ found. let same : Some (position_or_len is_stop part) ≡ None = sym (cond-true _ _ _ found) ∙ e in cc)
    (λ past. subst HasNoStop (take_all (position_or_len is_stop part) part (ltb-false _ _ past)) (none_before part))
    (cases_Bool _)

-- ---- the prefix

module _ (part : List ℕ) (i : ℕ) (c : IsCutAt part i) where
  search_prefix_by : (search_prefix : List ℕ) → ((search_prefix ≡ take i part) × EndsInDash (take i part)) ⊎ ((search_prefix ≡ take i part ++ get_or part i 0 ∷ []) × ¬ EndsInDash (take i part)) → IsSearchPrefixOf part search_prefix
  search_prefix_by search_prefix is =
      record { before = take i part; stop = get_or part i 0; rest = drop (i + 1) part; is = c.is; plain = c.plain; stopped = c.stopped; search_prefix_is = is }

  -- with the stop, if no dash is before it
  pub search_prefix_with : ¬ EndsInDash (take i part) → IsSearchPrefixOf part (take (i + 1) part)
  search_prefix_with other = search_prefix_by (take (i + 1) part) (inr (take_more part i 0 c.within, other))

  -- without the stop, if a dash is before it
  pub search_prefix_without : EndsInDash (take i part) → IsSearchPrefixOf part (take i part)
  search_prefix_without dash = search_prefix_by (take i part) (inl (refl, dash))

-- what is taken ends in a dash exactly where that is its last byte
pub dash_before : (part : List ℕ) (i : ℕ) → 0 < i → i < length part → get_or part (i - 1) 0 ≡ 45 → EndsInDash (take i part)
dash_before part (suc i) some l e = record { start = take i part; is = ap (λ (n : ℕ). take n part) one ∙ take_more part i 0 (omega (arith, l)) ∙ ap (λ (b : ℕ). take i part ++ b ∷ []) (ap (λ (n : ℕ). get_or part n 0) two ∙ e) }
  where
    one : suc i ≡ i + 1
    one = omega arith

    two : i ≡ suc i - 1
    two = omega arith
dash_before part zero some l e = absurd (omega (arith, some))

-- no empty list ends in a dash
none_ends : (start : List ℕ) → start ++ 45 ∷ [] ≡ [] → ⊥
none_ends [] e = cc (e)
none_ends (x ∷ start) e = cc (e)

-- nor does a prefix of length 0
pub none_taken : (part : List ℕ) (i : ℕ) → i ≤ 0 → ¬ EndsInDash (take i part)
none_taken part i l d =
    let none : i ≡ 0 = omega (arith, l) in
    none_ends d.start (sym d.is ∙ ap (λ (n : ℕ). take n part) none)

last_taken : (part start : List ℕ) (i : ℕ) → i < length part → take (i + 1) part ≡ start ++ 45 ∷ [] → get_or part i 0 ≡ 45
last_taken part start i l e = same_last (take i part) start (get_or part i 0) (sym (take_more part i 0 l) ∙ e)
  where
    same_last : (xs ys : List ℕ) (b : ℕ) → xs ++ b ∷ [] ≡ ys ++ 45 ∷ [] → b ≡ 45
    same_last [] [] b e = ap (λ (l : List ℕ). get_or l 0 b) e
    same_last [] (y ∷ ys) b e = absurd (none_ends ys (sym (ap (drop 1) e)))
    same_last (x ∷ xs) [] b e = absurd (none_more xs b (ap (drop 1) e))
      where
        none_more : (zs : List ℕ) (c : ℕ) → zs ++ c ∷ [] ≡ [] → ⊥
        none_more [] c f = cc (f)
        none_more (z ∷ zs) c f = cc (f)
    same_last (x ∷ xs) (y ∷ ys) b e = same_last xs ys b (ap (drop 1) e)

pub no_dash_before : (part : List ℕ) (i : ℕ) → i < length part → get_or part (i - 1) 0 ≢ 45 → ¬ EndsInDash (take i part)
no_dash_before part zero l other d = none_ends d.start (sym d.is)
no_dash_before part (suc i) l other d =
    let one : i + 1 ≡ suc i = omega arith in
    let two : i ≡ suc i - 1 = omega arith in
    other (ap (λ (n : ℕ). get_or part n 0) (sym two) ∙ last_taken part d.start i (omega (arith, l)) (ap (λ (n : ℕ). take n part) one ∙ d.is))
