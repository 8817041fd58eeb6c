-- What a node of a world holds is what its replica holds.
use Rattle.std.proofs.Common.{◌∷◌, ◌≡◌}
use Rattle.fleet_answers.proofs.Prelude.{[], IfSome, ItemBy, length, List, map, None, Option, refl, slice_get, slice_get_read, Some, subst, suc, zero, ℕ}

-- what holds of a value implies what follows from it
pub if_some : {X : Type 0} (P Q : X → Type 0) → ((x : X) → P x → Q x) → (o : Option X) → IfSome o P → IfSome o Q
if_some P Q f None p = tt
if_some P Q f (Some x) p = f x p

-- what holds of a value that is there
pub of_found : {X : Type 0} (P : X → Type 0) (xs : List X) (k : ℕ) (x : X) → slice_get xs k ≡ Some x → IfSome (slice_get xs k) P → P x
of_found P xs k x e h = subst (λ o. IfSome o P) e h

-- of two lists that show the same: what holds of one's value at a place holds of the other's
pub shown_at : {X Y S : Type 0} (f : X → S) (g : Y → S) (P : S → Type 0) (xs : List X) (ys : List Y) (k : ℕ) (x : X) → map f xs ≡ map g ys → slice_get xs k ≡ Some x → P (f x)
    → IfSome (slice_get ys k) (λ y. P (g y))
shown_at f g P xs [] k x e h p = tt
shown_at f g P [] (y ∷ ys) k x e h p = cc
shown_at f g P (z ∷ xs) (y ∷ ys) zero x e h p =
    let same : f x ≡ g y = cc in
    subst P same p
shown_at f g P (z ∷ xs) (y ∷ ys) (suc k) x e h p =
    let rest : map f xs ≡ map g ys = cc in
    shown_at f g P xs ys k x rest h p

-- what `get` returns
pub got : {R X : Type 0} (now : R → X) (xs : List X) (i : ℕ) (r : R) → ItemBy now xs i i (Some r) → slice_get xs i ≡ Some (now r)
got now xs i r item = slice_get_read xs (length xs) i (now r) refl item.3.0 item.1
