-- There is one least node, and one start list; stuck nodes aren't in it.
use Rattle.std.proofs.Common.{◌++◌, ◌∷◌, ◌≡◌}
use Rattle.start_order.specs.Prelude.{[], ap, append-nil, append_assoc, Equal, Greater, inl, inr, IsAmong, IsAmong-append_cases, IsAntisymmetric, IsLeast, IsTotalOrder, Less, List, Listed, Ordering, refl, subst, sym, turned, ◌∙◌}
use Rattle.start_order.specs.StartOrder.{CanStart, IsKnot, IsStartList, IsStuck}

module _ {N : Type 0} (order : N → N → Ordering) (total : IsTotalOrder order) (exact : IsAntisymmetric order) where
  -- two nodes, neither of which is less, are equal
  pub same_unless_less : (u v : N) → ¬ (order u v ≡ Less) → ¬ (order v u ≡ Less) → u ≡ v
  same_unless_less u v a b = by (order u v) refl
    where
      by : (r : Ordering) → order u v ≡ r → u ≡ v
      by Less e = absurd (a e)
      by Equal e = exact u v e
      by Greater e = absurd (b (turned order total u v Greater e))

  pub one_least : (set : N → Type 0) (u v : N) → IsLeast order set u → IsLeast order set v → u ≡ v
  one_least set u v p q = same_unless_less u v (q.least u p.member) (p.least v q.member)

-- the least member is the same for sets with the same members
pub least_along : {N : Type 0} (order : N → N → Ordering) (s t : N → Type 0) → ((v : N) → s v → t v)
    → ((v : N) → t v → s v) → (u : N) → IsLeast order s u → IsLeast order t u
least_along order s t to from u l = record { member = to u l.member; least = λ v m. l.least v (from v m) }

module _ {N : Type 0} (chosen : N → Type 0) (before : N → N → Type 0) where
  pub can_start_along : (s t : N → Type 0) → ((v : N) → s v → t v) → ((v : N) → t v → s v) → (u : N)
      → CanStart chosen before s u → CanStart chosen before t u
  can_start_along s t to from u f = record { is_chosen = f.is_chosen; waiting = λ m. f.waiting (from u m); ready = λ v c b. to v (f.ready v c b) }

  pub stuck_chosen : (u : N) → IsStuck chosen before u → chosen u
  stuck_chosen u s = s.tied.all_chosen u s.member

  module _ (order : N → N → Ordering) where
    -- ---- no member of a knot is in a start list
    module _ (list knot : List N) (p : IsStartList order chosen before list) (k : IsKnot chosen before knot) where
      knot_out : (prefix rest : List N) → list ≡ prefix ++ rest → ((u : N) → IsAmong u knot → ¬ IsAmong u prefix)
          → (u : N) → IsAmong u knot → ¬ IsAmong u list
      knot_out prefix [] e out u m h = out u m (let P : List N → Type 0 = IsAmong u in subst P (e ∙ append-nil prefix) h)
      knot_out prefix (x ∷ rest) e out w o a = knot_out (prefix ++ x ∷ []) rest (e ∙ sym (append_assoc prefix (x ∷ []) rest)) more w o a
        where
          starts : CanStart chosen before (Listed prefix) x
          starts = (p.each_least prefix x rest e).member

          more : (u : N) → IsAmong u knot → ¬ IsAmong u (prefix ++ x ∷ [])
          more u m h = elim (IsAmong-append_cases u prefix (x ∷ []) h) [
            | inl a ↦ out u m a
            | inr a ↦ elim a [
              | inl same ↦ (let b = k.blocked u m in
                  let P : N → Type 0 = before b.0 in
                  out b.0 b.1.0 (starts.ready b.0 (k.all_chosen b.0 b.1.0) (subst P (sym same) b.1.1)))
              | inr none ↦ none
            ]
          ]

    pub stuck_out : (list : List N) → IsStartList order chosen before list → (u : N) → IsStuck chosen before u → ¬ IsAmong u list
    stuck_out list p u s = knot_out list s.knot p s.tied [] list refl (λ v m h. h) u s.member

    -- ---- there is one start list
    module _ (total : IsTotalOrder order) (exact : IsAntisymmetric order) (l m : List N)
        (p : IsStartList order chosen before l) (q : IsStartList order chosen before m) where
      ends : (a b : List N) → IsStartList order chosen before a → IsStartList order chosen before b
          → (prefix : List N) (y : N) (ys : List N) → a ≡ prefix ++ [] → ¬ (b ≡ prefix ++ y ∷ ys)
      ends a b s t prefix y ys e f =
          let P : List N → Type 0 = λ k. CanStart chosen before (Listed k) y in
          s.whole y (subst P (sym (e ∙ append-nil prefix)) (t.each_least prefix y ys f).member)

      same_rests : (prefix xs ys : List N) → l ≡ prefix ++ xs → m ≡ prefix ++ ys → xs ≡ ys
      same_rests prefix [] [] e f = refl
      same_rests prefix [] (y ∷ ys) e f = absurd (ends l m p q prefix y ys e f)
      same_rests prefix (x ∷ xs) [] e f = absurd (ends m l q p prefix x xs f e)
      same_rests prefix (x ∷ xs) (y ∷ ys) e f =
          let same : x ≡ y = one_least order total exact (CanStart chosen before (Listed prefix)) x y (p.each_least prefix x xs e) (q.each_least prefix y ys f) in
          let other : m ≡ prefix ++ x ∷ ys = f ∙ ap (λ z. prefix ++ z ∷ ys) (sym same) in
          let rests : xs ≡ ys = same_rests (prefix ++ x ∷ []) xs ys (e ∙ sym (append_assoc prefix (x ∷ []) xs)) (other ∙ sym (append_assoc prefix (x ∷ []) ys)) in
          ap (λ z. z ∷ xs) same ∙ ap (λ zs. y ∷ zs) rests

      pub one_start_list : l ≡ m
      one_start_list = same_rests [] l m refl refl
