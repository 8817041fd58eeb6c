-- Laws of `first_said` (the first answer that a function gives along a list), by index.
-- Source: this project's own.
use Rattle.std.proofs.Common.{◌<◌, ◌∷◌, ◌≡◌}
use Rattle.list_laws.specs.{FirstSaid.{first_said}, Prelude.{[], ap, arith, drop, get_or, length, List, None, Option, option_or, refl, Some, suc, zero, ℕ, ◌∙◌}}

module _ {A B : Type 0} where
  -- the first answer from an index on: the answer there, or else the first one after it
  pub said_from : (f : A → Option B) (xs : List A) (i : ℕ) (d : A) → i < length xs
      → first_said f (drop i xs) ≡ option_or (f (get_or xs i d)) (first_said f (drop (suc i) xs))
  said_from f [] i d h = absurd (omega (arith, h))
  said_from f (x ∷ xs) zero d h = refl
  said_from f (x ∷ xs) (suc i) d h = said_from f xs i d (omega (arith, h))

  -- if there is no answer at any index, there is no first answer
  pub all_undefined : (f : A → Option B) (xs : List A) (d : A) → ((i : ℕ) → i < length xs → f (get_or xs i d) ≡ None)
      → first_said f xs ≡ None
  all_undefined f [] d none = refl
  all_undefined f (x ∷ xs) d none = ap (λ o. option_or o (first_said f xs)) (none 0 (omega arith)) ∙ all_undefined f xs d (λ i h. none (suc i) (omega (arith, h)))

  -- the first index with an answer decides
  pub place_decides : (f : A → Option B) (xs : List A) (d : A) (i : ℕ) (c : B) → i < length xs
      → f (get_or xs i d) ≡ Some c → ((k : ℕ) → k < i → f (get_or xs k d) ≡ None) → first_said f xs ≡ Some c
  place_decides f [] d i c h e none = absurd (omega (arith, h))
  place_decides f (x ∷ xs) d zero c h e none = ap (λ o. option_or o (first_said f xs)) e
  place_decides f (x ∷ xs) d (suc i) c h e none =
      ap (λ o. option_or o (first_said f xs)) (none 0 (omega arith)) ∙ place_decides f xs d i c (omega (arith, h)) e (λ k l. none (suc k) (omega (arith, l)))
