-- The index from which a family's values count.
use Rattle.std.proofs.Common.{◌++◌, ◌+◌, ◌<◌, ◌∷◌, ◌≡◌, ◌≤◌, ◌⊎◌}
use Rattle.setting_rules.proofs.Prelude.{[], ap, arith, Bool, cond, drop, drop-append-le, false, following_last, following_last-push, get_or, inl, inr, length, length-take-le, List, refl, suc, sym, take, take_more, true, zero, ℕ, ◌∙◌}

module _ {X : Type 0} where
  -- dropping at least the whole list leaves nothing
  pub drop_past : (n : ℕ) (xs : List X) → length xs ≤ n → drop n xs ≡ []
  drop_past zero [] h = refl
  drop_past (suc n) [] h = refl
  drop_past zero (x ∷ xs) h = absurd (omega (arith, h))
  drop_past (suc n) (x ∷ xs) h = drop_past n xs (omega arith)

  pub start_more : (p : X → Bool) (xs : List X) (i : ℕ) (x : X) (s t : ℕ) → i < length xs → x ≡ get_or xs i x → s ≤ i → drop s (take i xs) ≡ following_last p (take i xs) → (((p x ≡ true) × (t ≡ i + 1)) ⊎ ((p x ≡ false) × (t ≡ s)))
      → (t ≤ i + 1) × (drop t (take (i + 1) xs) ≡ following_last p (take (i + 1) xs))
  start_more p xs i x s t h is le was new = elim new as (λ n. (t ≤ i + 1) × (drop t (take (i + 1) xs) ≡ following_last p (take (i + 1) xs))) [
    | inl y ↦ (omega (arith, y.1), drop_past t (take (i + 1) xs) (omega (arith, y.1, length-take-le (i + 1) xs (omega arith))) ∙ sym (ap (λ b. cond b [] (following_last p (take i xs) ++ x ∷ [])) y.0) ∙ sym pushed)
    | inr y ↦ (omega (arith, y.1), ap (λ l. drop t l) grown ∙ ap (λ n. drop n (take i xs ++ x ∷ [])) y.1 ∙ drop-append-le s (take i xs) (x ∷ []) (omega (arith, length-take-le i xs (omega arith))) ∙ ap (λ l. l ++ x ∷ []) was ∙ sym (ap (λ b. cond b [] (following_last p (take i xs) ++ x ∷ [])) y.0) ∙ sym pushed)
  ]
    where
      grown : take (i + 1) xs ≡ take i xs ++ x ∷ []
      grown = take_more xs i x h ∙ ap (λ y. take i xs ++ y ∷ []) (sym is)

      pushed : following_last p (take (i + 1) xs) ≡ cond (p x) [] (following_last p (take i xs) ++ x ∷ [])
      pushed = ap (following_last p) grown ∙ following_last-push p (take i xs) x

  pub start_whole : (p : X → Bool) (xs : List X) (i s : ℕ) → length xs ≤ i → drop s (take i xs) ≡ following_last p (take i xs) → drop s xs ≡ following_last p xs
  start_whole p xs i s h was = ap (drop s) (sym whole) ∙ was ∙ ap (following_last p) whole
    where
      whole : take i xs ≡ xs
      whole = take_past i xs h
        where
          take_past : (n : ℕ) (ys : List X) → length ys ≤ n → take n ys ≡ ys
          take_past zero [] h = refl
          take_past (suc n) [] h = refl
          take_past zero (y ∷ ys) h = absurd (omega (arith, h))
          take_past (suc n) (y ∷ ys) h = ap (λ l. y ∷ l) (take_past n ys (omega arith))
