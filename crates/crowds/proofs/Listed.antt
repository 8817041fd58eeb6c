-- The paths of a crowd, each by its worker.
use Rattle.std.proofs.Common.{if◌then◌else◌, ◌+◌, ◌<◌, ◌==◌, ◌∷◌, ◌≡◌, ◌≤◌, ◌⊎◌}
use Rattle.crowds.proofs.Prelude.{[], ap, arith, Bool, crowd_place, crowd_places, Edit, edit_at, false, inl, inr, IsAmong, leb, leb_tells, List, map, ne_eqb, range_with_len, refl, subst, suc, sym, true, zero, ℕ, ◌∙◌}

among_map : {X Y : Type 0} (f : X → Y) (x : X) (xs : List X) → IsAmong x xs → IsAmong (f x) (map f xs)
among_map f x [] a = absurd a
among_map f x (y ∷ xs) (inl e) = inl (ap f e)
among_map f x (y ∷ xs) (inr h) = inr (among_map f x xs h)

from_map : {X Y : Type 0} (f : X → Y) (y : Y) (xs : List X) → IsAmong y (map f xs) → (x : X) × IsAmong x xs × (f x ≡ y)
from_map f y [] a = absurd a
from_map f y (x ∷ xs) (inl e) = (x, inl refl, e)
from_map f y (x ∷ xs) (inr h) = let r = from_map f y xs h in (r.0, inr r.1, r.2)

range_step : (a n k : ℕ) → ((leb (suc a) k ≡ true) × (suc a ≤ k)) ⊎ ((leb (suc a) k ≡ false) × (k < suc a)) → a ≤ k → (suc a ≤ k → IsAmong k (range_with_len (a + 1) n)) → (a ≡ k) ⊎ IsAmong k (range_with_len (a + 1) n)
range_step a n k (inl x) le rest = inr (rest x.1)
range_step a n k (inr x) le rest = inl (let lt = x.1 in omega arith)

among_range : (a n k : ℕ) → a ≤ k → k < a + n → IsAmong k (range_with_len a n)
among_range a zero k le lt = absurd (omega arith)
among_range a (suc n) k le lt = range_step a n k (leb_tells (suc a) k) le (λ above. among_range (a + 1) n k (omega arith) (omega arith))

from_range : (a n k : ℕ) → IsAmong k (range_with_len a n) → k < a + n
from_range a zero k h = absurd h
from_range a (suc n) k (inl e) = omega arith
from_range a (suc n) k (inr h) = let r = from_range (a + 1) n k h in omega arith

-- there is an edit at the path of a worker, if there are edits
pub in_places : (workers edits k : ℕ) → k < workers → 0 < edits → IsAmong (edit_at (crowd_place k)) (map edit_at (crowd_places workers edits))
in_places workers edits k lt some =
    let is : (edits == 0) ≡ false = ne_eqb edits 0 (λ same. absurd (omega arith)) in
    subst (λ b. IsAmong (edit_at (crowd_place k)) (map edit_at (if b then [] else map crowd_place (range_with_len 0 workers)))) (sym is)
    (among_map edit_at (crowd_place k) (map crowd_place (range_with_len 0 workers)) (among_map crowd_place k (range_with_len 0 workers) (among_range 0 workers k (omega arith) (omega arith))))

from_some : (workers : ℕ) (f : Edit) → IsAmong f (map edit_at (map crowd_place (range_with_len 0 workers))) → (k : ℕ) × (k < workers) × (crowd_place k ≡ f.place)
from_some workers f h =
    let at = from_map edit_at f (map crowd_place (range_with_len 0 workers)) h in
    let worker = from_map crowd_place at.0 (range_with_len 0 workers) at.1 in
    let within = from_range 0 workers worker.0 worker.1 in
    (worker.0, omega arith, worker.2 ∙ ap (λ (e : Edit). e.place) at.2)

not_zero : (n : ℕ) → (n == 0) ≡ false → 0 < n
not_zero zero is = cc
not_zero (suc n) is = omega arith

-- each of these edits is at the path of a worker, and there are edits
pub from_places : (workers edits : ℕ) (f : Edit) → IsAmong f (map edit_at (crowd_places workers edits)) → (0 < edits) × ((k : ℕ) × (k < workers) × (crowd_place k ≡ f.place))
from_places workers edits f h = by (edits == 0) refl h
  where
    by : (b : Bool) → (edits == 0) ≡ b → IsAmong f (map edit_at (if b then [] else map crowd_place (range_with_len 0 workers))) → (0 < edits) × ((k : ℕ) × (k < workers) × (crowd_place k ≡ f.place))
    by true is a = absurd a
    by false is a = (not_zero edits is, from_some workers f a)
