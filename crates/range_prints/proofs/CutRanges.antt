-- Ranges that are cut at places.
use Rattle.std.proofs.Common.{◌&&◌, ◌++◌, ◌+◌, ◌<◌, ◌∷◌, ◌≡◌}
use Rattle.range_prints.proofs.Prelude.{[], add_assoc, add-zero, All, All-drop, and_parts, ap, arith, below_at, Bool, cond, drop, Equal, false, get_or, Greater, is_less, is_lt, is_sorted, IsTrue, length, Less, List, None, not, Option, place_cmp, place_cmp_total, PlaceParts, refl, Some, subst, suc, sym, tied_itself, true, turned, Version, zero, ℕ, ◌∙◌}
use Rattle.range_prints.specs.Ranges.{ArePartsOf, is_before, is_below, is_reached, is_within, times_within}
use Rattle.range_prints.specs.declared.ranges.Range.{Range}

-- the range with these bounds
abbrev pub between : Option PlaceParts → Option PlaceParts → Range
between f u = record { from = f; until = u }

-- below a place that isn't below another: if p isn't below b, and b isn't below a, p isn't below a
further : (a b p : PlaceParts) → is_below a b ≡ false → is_below b p ≡ false → is_below a p ≡ false
further a b p ab bp = elim (place_cmp p a) as (λ o. place_cmp p a ≡ o → is_lt o ≡ false) [
  | Less ↦ λ e. elim (place_cmp b p) as (λ o. place_cmp b p ≡ o → is_lt Less ≡ false) [
    | Less ↦ λ l. let told = sym (ap is_lt (place_cmp_total.trans b p a l e)) ∙ ab in cc
    | Equal ↦ λ l. let told = sym (ap is_lt (place_cmp_total.congr b p a l ∙ e)) ∙ ab in cc
    | Greater ↦ λ l. let told = sym (ap is_lt (turned place_cmp place_cmp_total b p Greater l)) ∙ bp in cc
  ] refl
  | Equal ↦ λ e. refl
  | Greater ↦ λ e. refl
] refl

-- what is below a place before an upper bound is before it
before_too : (u : Option PlaceParts) (b p : PlaceParts) → is_before u b ≡ true → is_below b p ≡ true → is_before u p ≡ true
before_too None b p h below = refl
before_too (Some c) b p h below = ap is_lt (place_cmp_total.trans p b c (is_less _ below) (is_less _ h))

-- what isn't below a place that a lower bound reaches is reached too
reached_too : (f : Option PlaceParts) (b p : PlaceParts) → is_reached f b ≡ true → is_below b p ≡ false → is_reached f p ≡ true
reached_too None b p h above = refl
reached_too (Some a) b p h above = elim (is_below a b) as (λ t. is_below a b ≡ t → not t ≡ true → not (is_below a p) ≡ true) [
  | true ↦ λ e n. cc
  | false ↦ λ e n. ap not (further a b p e above)
] refl h

and_true : (x : Bool) → (x && true) ≡ x
and_true true = refl
and_true false = refl

and_false : (x : Bool) → (x && false) ≡ false
and_false true = refl
and_false false = refl

-- how often a test holds
abbrev count : Bool → ℕ
count s = cond s 1 0

-- a range that is cut at a place in it
cut_once : (f u : Option PlaceParts) (b p : PlaceParts) → is_within (between f u) b ≡ true
    → cond (is_within (between f (Some b)) p) 1 0 + cond (is_within (between (Some b) u) p) 1 0 ≡ cond (is_within (between f u) p) 1 0
cut_once f u b p h = elim (is_below b p) as (λ t. is_below b p ≡ t → cond (is_reached f p && t) 1 0 + cond (not t && is_before u p) 1 0 ≡ cond (is_reached f p && is_before u p) 1 0) [
  | true ↦ λ e.
      let before = before_too u b p (and_parts _ _ h).1 e in
      add-zero _ ∙ ap (λ (s : Bool). count (is_reached f p && s)) (sym before)
  | false ↦ λ e.
      let reached : is_reached f p ≡ true = reached_too f b p (and_parts _ _ h).0 e in
      let rest : ℕ = cond (is_before u p) 1 0 in
      let alone : 0 + rest ≡ rest = omega arith in
      ap (λ (s : Bool). count s + rest) (and_false (is_reached f p)) ∙ alone ∙ ap (λ (s : Bool). count (s && is_before u p)) (sym reached)
] refl

times-append : (p : PlaceParts) (xs ys : List Range) → times_within p (xs ++ ys) ≡ times_within p xs + times_within p ys
times-append p [] ys = omega arith
times-append p (x ∷ xs) ys = ap (λ n. cond (is_within x p) 1 0 + n) (times-append p xs ys) ∙ sym (add_assoc (cond (is_within x p) 1 0) (times_within p xs) (times_within p ys))

-- parts of which the last is cut at a place in it
pub cut_last : (r : Range) (xs : List Range) (f u : Option PlaceParts) (b : PlaceParts) → is_within (between f u) b ≡ true
    → ArePartsOf r (xs ++ between f u ∷ []) → ArePartsOf r ((xs ++ between f (Some b) ∷ []) ++ between (Some b) u ∷ [])
cut_last r xs f u b h are p =
    let first = cond (is_within (between f (Some b)) p) 1 0 in
    let second = cond (is_within (between (Some b) u) p) 1 0 in
    let whole = cond (is_within (between f u) p) 1 0 in
    let cut : first + second ≡ whole = cut_once f u b p h in
    let left : times_within p ((xs ++ between f (Some b) ∷ []) ++ between (Some b) u ∷ []) ≡ (times_within p xs + (first + 0)) + (second + 0) =
    times-append p (xs ++ between f (Some b) ∷ []) (between (Some b) u ∷ []) ∙ ap (λ n. n + (second + 0)) (times-append p xs (between f (Some b) ∷ [])) in
    let right : times_within p (xs ++ between f u ∷ []) ≡ times_within p xs + (whole + 0) = times-append p xs (between f u ∷ []) in
    let same : (times_within p xs + (first + 0)) + (second + 0) ≡ times_within p xs + (whole + 0) = omega arith in
    left ∙ same ∙ sym right ∙ are p

-- a range is its own only part
pub only_part : (r : Range) → ArePartsOf r (r ∷ [])
only_part r p = add-zero _

pub drop_sorted : (n : ℕ) (vs : List (PlaceParts × Version)) → IsTrue (is_sorted place_cmp vs) → IsTrue (is_sorted place_cmp (drop n vs))
drop_sorted zero vs s = s
drop_sorted (suc n) [] s = s
drop_sorted (suc n) (v ∷ vs) s = drop_sorted n vs (and_parts _ _ s).1

-- none of a sorted list is below its first
not_below : (v : PlaceParts × Version) (vs : List (PlaceParts × Version)) → IsTrue (is_sorted place_cmp (v ∷ vs)) → (k : ℕ) (d : PlaceParts × Version) → k < length (v ∷ vs) → is_below v.0 (get_or (v ∷ vs) k d).0 ≡ false
not_below v vs s zero d lt = ap is_lt (tied_itself place_cmp_total v.0)
not_below v vs s (suc k) d lt = ap is_lt (turned place_cmp place_cmp_total v.0 (get_or vs k d).0 Less (below_at place_cmp v.0 vs k d (and_parts _ _ s).0 (omega arith)))

-- from its first on they are in the upper part
pub from_first : (f u : Option PlaceParts) (v : PlaceParts × Version) (vs : List (PlaceParts × Version)) → IsTrue (is_sorted place_cmp (v ∷ vs))
    → All (λ (w : PlaceParts × Version). is_within (between f u) w.0 ≡ true) (v ∷ vs) → All (λ (w : PlaceParts × Version). is_within (between (Some v.0) u) w.0 ≡ true) (v ∷ vs)
from_first f u v vs s all k d lt =
    let within = and_parts (is_reached f (get_or (v ∷ vs) k d).0) _ (all k d lt) in
    ap (λ t. not t && is_before u (get_or (v ∷ vs) k d).0) (not_below v vs s k d lt) ∙ within.1

-- What is left after cutting at the first version that is left.
pub record IsCutAt (r : Range) (xs : List Range) (u : Option PlaceParts) (b : PlaceParts) (left : List (PlaceParts × Version)) : Type 0 where
  pub parts : ArePartsOf r (xs ++ between (Some b) u ∷ [])
  pub sorted : IsTrue (is_sorted place_cmp left)
  pub within : All (λ (w : PlaceParts × Version). is_within (between (Some b) u) w.0 ≡ true) left

pub cut_at_first : {u : Option PlaceParts} (r : Range) (xs : List Range) (f : Option PlaceParts) (v : PlaceParts × Version) (vs left : List (PlaceParts × Version)) (n : ℕ) → left ≡ v ∷ vs
    → ArePartsOf r (xs ++ between f u ∷ []) → IsTrue (is_sorted place_cmp left) → All (λ (w : PlaceParts × Version). is_within (between f u) w.0 ≡ true) left
    → IsCutAt r (xs ++ between f (Some v.0) ∷ []) u v.0 (drop n left)
cut_at_first {u} r xs f v vs left n is parts sorted within =
    let sorted_here : IsTrue (is_sorted place_cmp (v ∷ vs)) = subst (λ (l : List (PlaceParts × Version)). IsTrue (is_sorted place_cmp l)) is sorted in
    let within_here : All (λ (w : PlaceParts × Version). is_within (between f u) w.0 ≡ true) (v ∷ vs) = subst (λ (l : List (PlaceParts × Version)). All (λ (w : PlaceParts × Version). is_within (between f u) w.0 ≡ true) l) is within in
    let later : All (λ (w : PlaceParts × Version). is_within (between (Some v.0) u) w.0 ≡ true) (v ∷ vs) = from_first f u v vs sorted_here within_here in
    let some : 0 < length (v ∷ vs) = omega arith in
    record {
      parts = cut_last r xs f u v.0 (within_here 0 v some) parts;
      sorted = drop_sorted n left sorted;
      within = All-drop (λ (w : PlaceParts × Version). is_within (between (Some v.0) u) w.0 ≡ true) n left (subst (λ (l : List (PlaceParts × Version)). All (λ (w : PlaceParts × Version). is_within (between (Some v.0) u) w.0 ≡ true) l) (sym is) later);
    }
