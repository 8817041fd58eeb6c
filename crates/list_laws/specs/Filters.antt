-- Filters with several tests.
-- Source: this project's own.
use Rattle.std.proofs.Common.{◌∷◌, ◌≡◌}
use Rattle.list_laws.specs.Prelude.{[], ap, Bool, cond, false, filter, List, refl, true}

-- two filters in a row are one filter with both tests
pub filter_twice : {X : Type 0} (p q : X → Bool) (xs : List X) → filter p (filter q xs) ≡ filter (λ x. cond (q x) (p x) false) xs
filter_twice p q [] = refl
filter_twice p q (x ∷ xs) = by (q x) (filter_twice p q xs)
  where
    by : (b : Bool) → filter p (filter q xs) ≡ filter (λ x. cond (q x) (p x) false) xs
        → filter p (cond b (x ∷ filter q xs) (filter q xs)) ≡ cond (cond b (p x) false)
        (x ∷ filter (λ x. cond (q x) (p x) false) xs) (filter (λ x. cond (q x) (p x) false) xs)
    by true rest = ap (λ l. cond (p x) (x ∷ l) l) rest
    by false rest = rest
