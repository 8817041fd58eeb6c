-- What doesn't depend on the order of a list.
use Rattle.std.proofs.Common.{◌<◌, ◌∷◌, [], arith, Bool, cond, false, filter, get_or, length, List, set, suc, swap, true, zero, ℕ}
use Rattle.std.specs.Prelude.{IsPermutation}
use Rattle.std.proofs.lemmas.List.Sorted.{IsPermutation-cons, IsPermutation-keeps, IsPermutation-middle, IsPermutation-refl, IsPermutation-trans}

-- A relation holds along each permutation if it is reflexive and transitive, and goes under a head and over an exchange of
-- two heads.
module _ {X : Type 0} (R : List X → List X → Type 0) (same : (xs : List X) → R xs xs) (skip : (x : X) (xs ys : List X) → R xs ys → R (x ∷ xs) (x ∷ ys))
    (turn : (x y : X) (xs : List X) → R (x ∷ y ∷ xs) (y ∷ x ∷ xs)) (chain : (xs ys zs : List X) → R xs ys → R ys zs → R xs zs) where
  to_head : (l : List X) (j : ℕ) (x d : X) → j < length l → R (x ∷ l) (get_or l j d ∷ set l j x)
  to_head [] j x d h = absurd (omega arith)
  to_head (y ∷ l) zero x d h = turn x y l
  to_head (y ∷ l) (suc j) x d h = chain _ _ _ (turn x y l) (chain _ _ _ (skip y _ _ (to_head l j x d (omega arith))) (turn y (get_or l j d) (set l j x)))

  exchanged : (l : List X) (i j : ℕ) (d : X) → i < length l → j < length l → R l (set (set l i (get_or l j d)) j (get_or l i d))
  exchanged [] i j d p q = absurd (omega arith)
  exchanged (x ∷ l) zero zero d p q = same (x ∷ l)
  exchanged (x ∷ l) zero (suc j) d p q = to_head l j x d (omega arith)
  exchanged (x ∷ l) (suc i) zero d p q = to_head l i x d (omega arith)
  exchanged (x ∷ l) (suc i) (suc j) d p q = skip x _ _ (exchanged l i j d (omega arith) (omega arith))

  swapped : (l : List X) (i j : ℕ) → i < length l → j < length l → R l (swap l i j)
  swapped [] i j p q = same []
  swapped (x ∷ l) i j p q = exchanged (x ∷ l) i j x p q

  pub along_permutation : (xs ys : List X) → IsPermutation xs ys → R xs ys
  along_permutation xs = IsPermutation-keeps xs (R xs) (same xs) (λ l i j p q h. chain xs l _ h (swapped l i j p q))

module _ {X : Type 0} (p : X → Bool) where
  under : (x : X) (xs ys : List X) → IsPermutation (filter p xs) (filter p ys) → IsPermutation (filter p (x ∷ xs)) (filter p (x ∷ ys))
  under x xs ys h = elim (p x) as (λ b. IsPermutation (cond b (x ∷ filter p xs) (filter p xs)) (cond b (x ∷ filter p ys) (filter p ys))) [ true ↦ IsPermutation-cons x _ _ h | false ↦ h ]

  turned : (x y : X) (xs : List X) → IsPermutation (filter p (x ∷ y ∷ xs)) (filter p (y ∷ x ∷ xs))
  turned x y xs = by (p x) (p y)
    where
      by : (b c : Bool) → IsPermutation (cond b (x ∷ cond c (y ∷ filter p xs) (filter p xs)) (cond c (y ∷ filter p xs) (filter p xs))) (cond c (y ∷ cond b (x ∷ filter p xs) (filter p xs)) (cond b (x ∷ filter p xs) (filter p xs)))
      by true true = IsPermutation-middle (x ∷ []) y (filter p xs)
      by true false = IsPermutation-refl (x ∷ filter p xs)
      by false true = IsPermutation-refl (y ∷ filter p xs)
      by false false = IsPermutation-refl (filter p xs)

  pub IsPermutation-filter : (xs ys : List X) → IsPermutation xs ys → IsPermutation (filter p xs) (filter p ys)
  IsPermutation-filter = along_permutation (λ xs ys. IsPermutation (filter p xs) (filter p ys)) (λ xs. IsPermutation-refl _) under turned (λ xs ys zs. IsPermutation-trans _ _ _)
