-- Lists that a pairwise test of their elements finds equal.
-- Source: this project's own.
use Rattle.std.proofs.Common.{◌&&◌, ◌∷◌, ◌≡◌}
use Rattle.parallel_load.specs.Prelude.{[], ap, Bool, false, List, pointwise, refl, true, ◌∙◌}

-- the first of two true tests
pub first_true : (a b : Bool) → (a && b) ≡ true → a ≡ true
first_true true b h = refl
first_true false b h = cc (h)

pub second_true : (a b : Bool) → (a && b) ≡ true → b ≡ true
second_true true b h = h
second_true false b h = cc (h)

-- what a test of all elements shows
pub same_by : {X : Type 0} (E : X → X → Bool) → ((x y : X) → E x y ≡ true → x ≡ y) → (xs ys : List X) → pointwise E xs ys ≡ true → xs ≡ ys
same_by E f [] [] h = refl
same_by E f [] (y ∷ ys) h = cc (h)
same_by E f (x ∷ xs) [] h = cc (h)
same_by E f (x ∷ xs) (y ∷ ys) h =
    ap (λ z. z ∷ xs) (f x y (first_true (E x y) (pointwise E xs ys) h)) ∙ ap (λ zs. y ∷ zs) (same_by E f xs ys (second_true (E x y) (pointwise E xs ys) h))
