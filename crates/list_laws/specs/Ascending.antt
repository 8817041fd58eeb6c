-- Two lists in strictly ascending order that have the same members are equal.
-- Source: this project's own.
use Rattle.std.proofs.Common.{◌↔◌, ◌∷◌, ◌≡◌}
use Rattle.list_laws.specs.Prelude.{[], AllByRecursion, ap, inl, inr, is_lt, IsStrictlySortedBy, IsTotalOrder, Less, List, map, Ordering, refl, sorted_head, sorted_tail, subst, sym, tied_itself, true≢false, ◌∙◌}
use Rattle.list_laws.specs.Members.{IsAmong}

-- ordered by a key of each member, under a total order
module _ {X K : Type 0} (key : X → K) (cmp : K → K → Ordering) (total : IsTotalOrder cmp) where
  abbrev Ascends : List X → Type 0
  Ascends xs = IsStrictlySortedBy cmp (map key xs)

  above_all : (k : K) (xs : List X) (y : X) → AllByRecursion (λ j. cmp k j ≡ Less) (map key xs) → IsAmong y xs → cmp k (key y) ≡ Less
  above_all k [] y a h = absurd h
  above_all k (x ∷ xs) y a (inl e) = ap (λ z. cmp k (key z)) (sym e) ∙ a.0
  above_all k (x ∷ xs) y a (inr h) = above_all k xs y a.1 h

  not_below : {C : Type 0} (k : K) → cmp k k ≡ Less → C
  not_below k h = absurd (true≢false (ap is_lt (sym h ∙ tied_itself total k)))

  -- two ascending lists with the same members have the same first element and the same members after it
  module _ (x y : X) (xs ys : List X) (a : Ascends (x ∷ xs)) (b : Ascends (y ∷ ys))
      (same : (z : X) → IsAmong z (x ∷ xs) ↔ IsAmong z (y ∷ ys)) where
    above_first : (z : X) → IsAmong z xs → cmp (key x) (key z) ≡ Less
    above_first z h = above_all (key x) xs z (sorted_head cmp (key x) (map key xs) a) h

    above_second : (z : X) → IsAmong z ys → cmp (key y) (key z) ≡ Less
    above_second z h = above_all (key y) ys z (sorted_head cmp (key y) (map key ys) b) h

    heads : x ≡ y
    heads = pick ((same x).0 (inl refl)) ((same y).1 (inl refl))
      where
        pick : IsAmong x (y ∷ ys) → IsAmong y (x ∷ xs) → x ≡ y
        pick (inl e) o = sym e
        pick (inr h) (inl e) = e
        pick (inr h) (inr k) = not_below (key x) (total.trans (key x) (key y) (key x) (above_first y k) (above_second x h))

    forward : (z : X) → IsAmong z xs → IsAmong z ys
    forward z h = pick ((same z).0 (inr h))
      where
        pick : IsAmong z (y ∷ ys) → IsAmong z ys
        pick (inl e) = not_below (key x) (ap (λ w. cmp (key x) (key w)) (heads ∙ e) ∙ above_first z h)
        pick (inr k) = k

    back : (z : X) → IsAmong z ys → IsAmong z xs
    back z h = pick ((same z).1 (inr h))
      where
        pick : IsAmong z (x ∷ xs) → IsAmong z xs
        pick (inl e) = not_below (key y) (ap (λ w. cmp (key y) (key w)) (sym heads ∙ e) ∙ above_second z h)
        pick (inr k) = k

  pub one_ascending : (xs ys : List X) → Ascends xs → Ascends ys → ((z : X) → IsAmong z xs ↔ IsAmong z ys) → xs ≡ ys
  one_ascending [] [] a b same = refl
  one_ascending [] (y ∷ ys) a b same = absurd ((same y).1 (inl refl))
  one_ascending (x ∷ xs) [] a b same = absurd ((same x).0 (inl refl))
  one_ascending (x ∷ xs) (y ∷ ys) a b same =
      ap (λ z. z ∷ xs) (heads x y xs ys a b same)
      ∙ ap (λ zs. y ∷ zs) (one_ascending xs ys (sorted_tail cmp (key x) (map key xs) a) (sorted_tail cmp (key y) (map key ys) b) (λ z. (forward x y xs ys a b same z, back x y xs ys a b same z)))

map_itself : {X : Type 0} (xs : List X) → map (λ x. x) xs ≡ xs
map_itself [] = refl
map_itself (x ∷ xs) = ap (λ ys. x ∷ ys) (map_itself xs)

-- the same for lists ordered by the members themselves
pub one_ascending_list : {X : Type 0} (cmp : X → X → Ordering) (total : IsTotalOrder cmp) (xs ys : List X)
    → IsStrictlySortedBy cmp xs → IsStrictlySortedBy cmp ys → ((z : X) → IsAmong z xs ↔ IsAmong z ys) → xs ≡ ys
one_ascending_list cmp total xs ys a b same = one_ascending (λ x. x) cmp total xs ys (subst (IsStrictlySortedBy cmp) (sym (map_itself xs)) a) (subst (IsStrictlySortedBy cmp) (sym (map_itself ys)) b) same
