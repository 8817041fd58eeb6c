-- Where a place parts a sorted list.
use Rattle.std.proofs.Common.{◌&&◌, ◌∷◌, ◌≡◌, ◌≤◌}
use Rattle.range_prints.proofs.Prelude.{[], and_parts, ap, arith, below_at, Bool, cond, drop, Equal, false, get_or, Greater, is_gt, is_less, is_lt, is_sorted, IsPartitionedBy, IsPartitionPoint, IsTrue, length, Less, List, not, Ordering, ordering_reverse, place_cmp, place_cmp_total, PlaceParts, refl, suc, sym, take, true, turned, Version, zero, ℕ, ◌∙◌}
use Rattle.range_prints.specs.Ranges.{is_below, those}

abbrev pub Versions : Type 0
Versions = List (PlaceParts × Version)

reversed : (o : Ordering) → is_lt (ordering_reverse o) ≡ is_gt o
reversed Less = refl
reversed Equal = refl
reversed Greater = refl

-- a place that a bound is above is below it
pub is_behind : (b p : PlaceParts) → is_gt (place_cmp b p) ≡ is_below b p
is_behind b p = sym (ap is_lt (turned place_cmp place_cmp_total b p (place_cmp b p) refl) ∙ reversed (place_cmp b p))

-- in place order none that is below a bound comes after one that isn't
pub below_first : (b : PlaceParts) (vs : Versions) → IsTrue (is_sorted place_cmp vs) → IsPartitionedBy (λ (v : PlaceParts × Version). is_below b v.0) vs
below_first b [] s i j d l m h = absurd (omega arith)
below_first b (v ∷ vs) s zero zero d l m h = h
below_first b (v ∷ vs) s zero (suc j) d l m h =
    ap is_lt (place_cmp_total.trans v.0 (get_or vs j d).0 b (below_at place_cmp v.0 vs j d (and_parts _ _ s).0 (omega arith)) (is_less _ h))
below_first b (v ∷ vs) s (suc i) zero d l m h = absurd (omega arith)
below_first b (v ∷ vs) s (suc i) (suc j) d l m h = below_first b vs (and_parts _ _ s).1 i j d (omega arith) (omega arith) h

-- those that pass a test, where they come first
pub parted : (test : PlaceParts → Bool) (vs : Versions) (n : ℕ) → n ≤ length vs
    → IsPartitionPoint (λ (v : PlaceParts × Version). test v.0 ≡ true) (λ (v : PlaceParts × Version). test v.0 ≡ false) vs n
    → (take n vs ≡ those test vs) × (drop n vs ≡ those (λ p. not (test p)) vs)
parted test [] zero within all = (refl, refl)
parted test [] (suc n) within all = absurd (omega arith)
parted test (v ∷ vs) zero within all =
    let fails : test v.0 ≡ false = all.1 0 v (omega arith) (omega arith) in
    let rest = parted test vs zero (omega arith) ((λ k d low high. absurd (omega arith)), (λ k d low high. all.1 (suc k) d (omega arith) (omega arith))) in (
      rest.0 ∙ sym (ap (λ (t : Bool). cond t (v ∷ those test vs) (those test vs)) fails),
      ap (λ (l : Versions). v ∷ l) rest.1 ∙ sym (ap (λ (t : Bool). cond (not t) (v ∷ those (λ p. not (test p)) vs) (those (λ p. not (test p)) vs)) fails),
    )
parted test (v ∷ vs) (suc n) within all =
    let passes : test v.0 ≡ true = all.0 0 v (omega arith) (omega arith) in
    let rest = parted test vs n (omega arith) ((λ k d low high. all.0 (suc k) d (omega arith) (omega arith)), (λ k d low high. all.1 (suc k) d (omega arith) (omega arith))) in (
      ap (λ (l : Versions). v ∷ l) rest.0 ∙ sym (ap (λ (t : Bool). cond t (v ∷ those test vs) (those test vs)) passes),
      rest.1 ∙ sym (ap (λ (t : Bool). cond (not t) (v ∷ those (λ p. not (test p)) vs) (those (λ p. not (test p)) vs)) passes),
    )

-- the two tests of a range, one after the other
pub both_tests : (f g : PlaceParts → Bool) (vs : Versions) → those f (those g vs) ≡ those (λ p. f p && g p) vs
both_tests f g [] = refl
both_tests f g (v ∷ vs) = elim (g v.0) as (λ t. those f (cond t (v ∷ those g vs) (those g vs)) ≡ cond (f v.0 && t) (v ∷ those (λ p. f p && g p) vs) (those (λ p. f p && g p) vs)) [
  | true ↦ elim (f v.0) as (λ s. cond s (v ∷ those f (those g vs)) (those f (those g vs)) ≡ cond (s && true) (v ∷ those (λ p. f p && g p) vs) (those (λ p. f p && g p) vs)) [
    | true ↦ ap (λ (l : Versions). v ∷ l) (both_tests f g vs)
    | false ↦ both_tests f g vs
  ]
  | false ↦ elim (f v.0) as (λ s. those f (those g vs) ≡ cond (s && false) (v ∷ those (λ p. f p && g p) vs) (those (λ p. f p && g p) vs)) [
    | true ↦ both_tests f g vs
    | false ↦ both_tests f g vs
  ]
]

-- a test that each place passes
pub all_pass : (vs : Versions) → those (λ p. true) vs ≡ vs
all_pass [] = refl
all_pass (v ∷ vs) = ap (λ (l : Versions). v ∷ l) (all_pass vs)
