-- The audit of the seats.
use Rattle.std.proofs.Common.{◌+◌, ◌<◌, ◌∷◌, ◌≡◌, ◌≢◌, ◌≤◌}
use mathlib.Core.Logic.{dite}
use Rattle.shared_node.proofs.Prelude.{[], ap, arith, get_or, length, List, refl, slice_get, Some, subst, suc, sum_by, sum_by_more, sym, take, zero, ℕ, ℕ_discrete, ◌∙◌}

module _ {A : Type 0} where
  -- the item at a place, by both look-ups
  pub at_get : (xs : List A) (i : ℕ) (s t : A) → s ≡ get_or xs i s → slice_get xs i ≡ Some t → s ≡ t
  at_get [] i s t e h = absurd (cc h)
  at_get (x ∷ xs) zero s t e h = cc (e, h)
  at_get (x ∷ xs) (suc i) s t e h = at_get xs i s t e h

  pub get_below : (xs : List A) (i : ℕ) (t : A) → slice_get xs i ≡ Some t → i < length xs
  get_below [] i t h = absurd (cc h)
  get_below (x ∷ xs) zero t h = omega arith
  get_below (x ∷ xs) (suc i) t h = let r = get_below xs i t h in omega arith

  pub sum_more : (f : A → ℕ) (xs : List A) (i : ℕ) (s : A) → i < length xs → s ≡ get_or xs i s → sum_by f (take (i + 1) xs) ≡ sum_by f (take i xs) + f s
  sum_more f xs i s less e = sum_by_more f xs i s less ∙ ap (λ (n : ℕ). sum_by f (take i xs) + n) (ap f (sym e))

  take_all : (xs : List A) (i : ℕ) → length xs ≤ i → take i xs ≡ xs
  take_all [] zero le = refl
  take_all [] (suc i) le = refl
  take_all (x ∷ xs) zero le = absurd (omega arith)
  take_all (x ∷ xs) (suc i) le = ap (λ (ys : List A). x ∷ ys) (take_all xs i (omega arith))

  pub sum_all : (f : A → ℕ) (xs : List A) (i : ℕ) → length xs ≤ i → sum_by f (take i xs) ≡ sum_by f xs
  sum_all f xs i le = ap (λ (ys : List A). sum_by f ys) (take_all xs i le)

  pub all_more : (P : A → Type 0) (xs : List A) (i : ℕ) (s : A) → s ≡ get_or xs i s → P s
      → ((k : ℕ) (t : A) → k < i → slice_get xs k ≡ Some t → P t)
      → (k : ℕ) (t : A) → k < i + 1 → slice_get xs k ≡ Some t → P t
  all_more P xs i s e here all k t less h =
      dite (ℕ_discrete k i)
      (λ (same : k ≡ i). subst P (at_get xs i s t e (ap (λ (j : ℕ). slice_get xs j) (sym same) ∙ h)) here)
      (λ (ne : k ≢ i). all k t (omega arith) h)
