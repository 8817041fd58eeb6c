-- A strictly ascending list is no longer than any list that has all its members. So more nodes than a limit are reached
-- exactly where the closure's list is longer than the limit.
use Rattle.std.proofs.Common.{◌<◌, ◌↔◌, ◌∷◌, ◌≡◌, ◌≤◌}
use Rattle.name_closure.specs.Prelude.{[], AllByRecursion, ap, arith, inl, inr, IsAmong, IsStrictlySortedBy, IsTotalOrder, length, Less, List, Ordering, refl, sorted_head, sorted_tail, subst, suc, sym, tied_itself, ℕ, ◌∙◌}
use Rattle.name_closure.specs.Chains.{HasOver, IsClosure}

module _ {N : Type 0} where
  -- the list without one occurrence of a member
  without : (n : N) (ys : List N) → IsAmong n ys → List N
  without n [] h = absurd h
  without n (y ∷ ys) (inl e) = ys
  without n (y ∷ ys) (inr h) = y ∷ without n ys h

  length-without : (n : N) (ys : List N) (h : IsAmong n ys) → length ys ≡ suc (length (without n ys h))
  unfolding without
  length-without n [] h = absurd h
  length-without n (y ∷ ys) (inl e) = refl
  length-without n (y ∷ ys) (inr h) = ap suc (length-without n ys h)

  among_without : (n m : N) (ys : List N) (h : IsAmong n ys) → ¬ (m ≡ n) → IsAmong m ys → IsAmong m (without n ys h)
  unfolding without
  among_without n m [] h d a = absurd h
  among_without n m (y ∷ ys) (inl e) d (inl f) = absurd (d (sym f ∙ e))
  among_without n m (y ∷ ys) (inl e) d (inr a) = a
  among_without n m (y ∷ ys) (inr h) d (inl f) = inl f
  among_without n m (y ∷ ys) (inr h) d (inr a) = inr (among_without n m ys h d a)

  below_member : (order : N → N → Ordering) (x n : N) (xs : List N) → AllByRecursion (λ y. order x y ≡ Less) xs
      → IsAmong n xs → order x n ≡ Less
  below_member order x n [] a h = absurd h
  below_member order x n (y ∷ ys) a (inl e) = subst (λ z. order x z ≡ Less) e a.0
  below_member order x n (y ∷ ys) a (inr h) = below_member order x n ys a.1 h

  module _ (order : N → N → Ordering) (total : IsTotalOrder order) where
    pub not_in_tail : (x : N) (xs : List N) → IsStrictlySortedBy order (x ∷ xs) → ¬ IsAmong x xs
    not_in_tail x xs s h =
        let below = below_member order x x xs (sorted_head order x xs s) h in
        let tied = tied_itself total x in
        cc

    pub no_more : (xs ys : List N) → IsStrictlySortedBy order xs → ((n : N) → IsAmong n xs → IsAmong n ys) → length xs ≤ length ys
    no_more [] ys s h = omega arith
    no_more (x ∷ xs) ys s h =
        let here = h x (inl refl) in
        let one = length-without x ys here in
        let rest : length xs ≤ length (without x ys here) =
        no_more xs (without x ys here) (sorted_tail order x xs s)
        (λ n a. among_without x n ys here (λ e. not_in_tail x xs s (subst (λ v. IsAmong v xs) e a)) (h n (inr a))) in
        omega arith

    -- more nodes than the limit are reached exactly where the closure's list is longer
    pub over-closure : (starts : N → Type 0) (leads : N → N → Type 0) (nodes : List N) (limit : ℕ) → IsClosure starts leads order nodes
        → HasOver starts leads order limit ↔ (limit < length nodes)
    over-closure starts leads nodes limit c = (longer, λ l. record { nodes = nodes; ascending = c.ascending; reached = λ n. (c.members n).0; over = l })
      where
        longer : HasOver starts leads order limit → limit < length nodes
        longer v =
            let fewer = no_more v.nodes nodes v.ascending (λ n h. (c.members n).1 (v.reached n h)) in
            let more = v.over in
            omega arith

    -- if the closure's list is within the limit, no more nodes than the limit are reached
    pub not_over : (starts : N → Type 0) (leads : N → N → Type 0) (nodes : List N) (limit : ℕ)
        → IsClosure starts leads order nodes → length nodes ≤ limit
        → ¬ HasOver starts leads order limit
    not_over starts leads nodes limit c room v = let long = (over-closure starts leads nodes limit c).0 v in absurd (omega arith)
