-- There is one cycle.
use Rattle.std.proofs.Common.{◌++◌, ◌∷◌, ◌≡◌, ◌≤◌, ◌⊎◌}
use Rattle.start_order.specs.Prelude.{[], ap, append_assoc, arith, inl, inr, IsAmong, IsAmong-append_cases, IsAntisymmetric, IsChain, IsLeast, IsReached, IsTotalOrder, Less, List, Ordering, refl, subst, suc, sym, tied_itself, zero, ℕ, ◌∙◌}
use Rattle.start_order.specs.{OrderLaws.{least_along, one_least, same_unless_less}, StartOrder.{IsBlockedAlong, IsBlocker, IsCycle, IsRing}}

module _ {N : Type 0} (order : N → N → Ordering) (stuck : N → Type 0) (before : N → N → Type 0) where
  abbrev successors : N → N → Type 0
  successors u v = IsBlocker order stuck before v u

  -- a node is on the list with `first` before it
  abbrev IsOn : N → List N → N → Type 0
  IsOn first rest u = IsAmong u (first ∷ rest)

  -- where there is a cycle, something is stuck
  pub cycle_stuck : (list : List N) → IsCycle order stuck before list → (u : N) × stuck u
  cycle_stuck [] c = absurd c
  cycle_stuck (first ∷ rest) c = from c.met.steps first c.met.chain
    where
      from : (k : ℕ) (u : N) → IsChain (IsLeast order stuck) (λ v w. IsBlocker order stuck before w v) k u → (v : N) × stuck v
      from zero u h = (u, h.member)
      from (suc k) u h = from k h.0 h.1.0

  module _ (total : IsTotalOrder order) (exact : IsAntisymmetric order) where
    one_blocker : (u v w : N) → IsBlocker order stuck before u w → IsBlocker order stuck before v w → u ≡ v
    one_blocker u v w = one_least order total exact (λ x. stuck x × before x w) u v

    -- the blocker of a node on a ring is on the ring
    stays_along : (a : N) (xs : List N) (b z w : N) → IsBlockedAlong order stuck before a xs b → (z ≡ b) ⊎ IsAmong z xs
        → IsBlocker order stuck before w z → IsAmong w (a ∷ xs)
    stays_along a [] b z w ch (inl e) l = let P : N → Type 0 = IsBlocker order stuck before w in inl (one_blocker a w b ch (subst P e l))
    stays_along a [] b z w ch (inr h) l = absurd h
    stays_along a (x ∷ xs) b z w ch (inl e) l = inr (stays_along x xs b z w ch.1 (inl e) l)
    stays_along a (x ∷ xs) b z w ch (inr (inl e)) l = let P : N → Type 0 = IsBlocker order stuck before w in inl (one_blocker a w x ch.0 (subst P (sym e) l))
    stays_along a (x ∷ xs) b z w ch (inr (inr h)) l = inr (stays_along x xs b z w ch.1 (inr h) l)

    stays : (x : N) (xs : List N) (z w : N) → IsBlockedAlong order stuck before x xs x → IsAmong z (x ∷ xs)
        → IsBlocker order stuck before w z → IsAmong w (x ∷ xs)
    stays x xs z w ch (inl e) l = stays_along x xs x z w ch (inl (sym e)) l
    stays x xs z w ch (inr h) l = stays_along x xs x z w ch (inr h) l

    -- a chain that begins on a ring ends on it
    chain_stays : (x : N) (xs : List N) (s : N → Type 0) → ((z : N) → s z → IsAmong z (x ∷ xs))
        → IsBlockedAlong order stuck before x xs x → (k : ℕ) (w : N) → IsChain s successors k w → IsAmong w (x ∷ xs)
    chain_stays x xs s on ch zero w c = on w c
    chain_stays x xs s on ch (suc k) w c = stays x xs c.0 w ch (chain_stays x xs s on ch k c.0 c.1.0) c.1.1

    -- two chains of the same length from the least stuck node have the same end
    one_end : (k : ℕ) (u v : N) → IsChain (IsLeast order stuck) successors k u → IsChain (IsLeast order stuck) successors k v → u ≡ v
    one_end zero u v c d = one_least order total exact stuck u v c d
    one_end (suc k) u v c d =
        let same : c.0 ≡ d.0 = one_end k c.0 d.0 c.1.0 d.1.0 in
        let P : N → Type 0 = λ w. IsBlocker order stuck before u w in
        one_blocker u v d.0 (subst P same c.1.1) d.1.1

    equal_or_less : (j k : ℕ) → j ≤ suc k → (j ≡ suc k) ⊎ (j ≤ k)
    equal_or_less zero k l = inr (omega arith)
    equal_or_less (suc zero) zero l = inl refl
    equal_or_less (suc (suc j)) zero l = absurd (omega arith)
    equal_or_less (suc j) (suc k) l = elim (equal_or_less j k (omega arith)) [ inl e ↦ inl (ap suc e) | inr m ↦ inr (omega arith) ]

    -- the longer of two chains from the least stuck node ends on each ring on which the shorter one ends
    longer_on : (x : N) (xs : List N) → IsBlockedAlong order stuck before x xs x → (j : ℕ) (u : N)
        → IsChain (IsLeast order stuck) successors j u → IsAmong u (x ∷ xs)
        → (k : ℕ) → j ≤ k → (v : N) → IsChain (IsLeast order stuck) successors k v → IsAmong v (x ∷ xs)
    longer_on x xs ch zero u c on zero l v d = let P : N → Type 0 = λ w. IsAmong w (x ∷ xs) in subst P (one_end zero u v c d) on
    longer_on x xs ch (suc j) u c on zero l v d = absurd (omega arith)
    longer_on x xs ch j u c on (suc k) l v d = elim (equal_or_less j k l) [
      | inl e ↦ (let P : N → Type 0 = λ w. IsAmong w (x ∷ xs) in let Q : ℕ → Type 0 = λ i. IsChain (IsLeast order stuck) successors i u in subst P (one_end (suc k) u v (subst Q e c) d) on)
      | inr m ↦ stays x xs d.0 v ch (longer_on x xs ch j u c on k m d.0 d.1.0) d.1.1
    ]

    -- following blockers from a node on a ring leads to its beginning
    comes_home : (a : N) (xs : List N) (b z : N) → IsBlockedAlong order stuck before a xs b → IsAmong z xs
        → IsReached (λ w. w ≡ z) successors a
    comes_home a [] b z ch h = absurd h
    comes_home a (x ∷ xs) b z ch (inl e) = record { steps = 1; chain = (x, (e, ch.0)) }
    comes_home a (x ∷ xs) b z ch (inr h) = let r = comes_home x xs b z ch.1 h in record { steps = suc r.steps; chain = (x, (r.chain, ch.0)) }

    less_itself : (u : N) → ¬ (order u u ≡ Less)
    less_itself u h = let e = tied_itself total u in cc

    not_before_first : (x : N) (xs : List N) (u : N) → IsRing order stuck before x xs → IsAmong u (x ∷ xs) → ¬ (order u x ≡ Less)
    not_before_first x xs u r (inl e) h = let P : N → Type 0 = λ w. order w x ≡ Less in less_itself x (subst P (sym e) h)
    not_before_first x xs u r (inr a) h = less_itself x (total.trans x u x (r.least u a) h)

    -- where y is on the ring of x, they are equal
    same_first_on : (x y : N) (xs ys : List N) → IsRing order stuck before x xs → IsRing order stuck before y ys
        → IsAmong y (x ∷ xs) → x ≡ y
    same_first_on x y xs ys p q (inl e) = e
    same_first_on x y xs ys p q (inr h) =
        let home = comes_home x xs x y p.round h in
        let on : IsAmong x (y ∷ ys) = chain_stays y ys (λ w. w ≡ y) (λ z e. inl (sym e)) q.round home.steps x home.chain in
        same_unless_less order total exact x y (not_before_first y ys x q on) (not_before_first x xs y p (inr h))

    less_or_same : (j k : ℕ) → (j ≤ k) ⊎ (k ≤ j)
    less_or_same zero k = inl (omega arith)
    less_or_same (suc j) zero = inr (omega arith)
    less_or_same (suc j) (suc k) = elim (less_or_same j k) [ inl l ↦ inl (omega arith) | inr l ↦ inr (omega arith) ]

    same_first : (x y : N) (xs ys : List N) → IsRing order stuck before x xs → IsRing order stuck before y ys → x ≡ y
    same_first x y xs ys p q = elim (less_or_same p.met.steps q.met.steps) [
      | inl l ↦ same_first_on x y xs ys p q (longer_on x xs p.round p.met.steps x p.met.chain (inl refl) q.met.steps l y q.met.chain)
      | inr l ↦ sym (same_first_on y x ys xs q p (longer_on y ys q.round q.met.steps y q.met.chain (inl refl) p.met.steps l x p.met.chain))
    ]

    -- ---- rings with the same beginning are equal: going back from the end, each step is the same

    -- the reversed list: from b on, each is the blocker of the one before it, and a is the last one's
    abbrev IsBack : N → List N → N → Type 0
    IsBack b [] a = IsBlocker order stuck before a b
    IsBack b (z ∷ zs) a = IsBlocker order stuck before z b × IsBack z zs a

    back_more : (b : N) (zs : List N) (x a : N) → IsBack b zs x → IsBlocker order stuck before a x → IsBack b (zs ++ x ∷ []) a
    back_more b [] x a h l = (h, l)
    back_more b (z ∷ zs) x a h l = (h.0, back_more z zs x a h.1 l)

    abbrev backwards : List N → List N
    backwards [] = []
    backwards (x ∷ xs) = backwards xs ++ x ∷ []

    back_from : (a : N) (xs : List N) (b : N) → IsBlockedAlong order stuck before a xs b → IsBack b (backwards xs) a
    back_from a [] b h = h
    back_from a (x ∷ xs) b h = back_more b (backwards xs) x a (back_from x xs b h.1) h.0

    one_back : (a b : N) (zs ws : List N) → IsBack b zs a → IsBack b ws a → ¬ IsAmong a zs → ¬ IsAmong a ws → zs ≡ ws
    one_back a b [] [] h k out off = refl
    one_back a b [] (w ∷ ws) h k out off = absurd (off (inl (one_blocker w a b k.0 h)))
    one_back a b (z ∷ zs) [] h k out off = absurd (out (inl (one_blocker z a b h.0 k)))
    one_back a b (z ∷ zs) (w ∷ ws) h k out off =
        let same : z ≡ w = one_blocker z w b h.0 k.0 in
        let P : N → Type 0 = λ u. IsBack u ws a in
        let rests : zs ≡ ws = one_back a z zs ws h.1 (subst P (sym same) k.1) (λ m. out (inr m)) (λ m. off (inr m)) in
        ap (λ u. u ∷ zs) same ∙ ap (λ us. w ∷ us) rests

    among_backwards : (u : N) (xs : List N) → IsAmong u (backwards xs) → IsAmong u xs
    among_backwards u [] h = h
    among_backwards u (x ∷ xs) h = elim (IsAmong-append_cases u (backwards xs) (x ∷ []) h) [
      | inl a ↦ inr (among_backwards u xs a)
      | inr a ↦ elim a [ inl e ↦ inl e | inr none ↦ absurd none ]
    ]

    backwards-append : (xs ys : List N) → backwards (xs ++ ys) ≡ backwards ys ++ backwards xs
    backwards-append [] ys = sym (append_nil (backwards ys))
      where
        append_nil : (zs : List N) → zs ++ [] ≡ zs
        append_nil [] = refl
        append_nil (z ∷ zs) = ap (λ us. z ∷ us) (append_nil zs)
    backwards-append (x ∷ xs) ys = ap (λ zs. zs ++ x ∷ []) (backwards-append xs ys) ∙ append_assoc (backwards ys) (backwards xs) (x ∷ [])

    backwards_twice : (xs : List N) → backwards (backwards xs) ≡ xs
    backwards_twice [] = refl
    backwards_twice (x ∷ xs) = backwards-append (backwards xs) (x ∷ []) ∙ ap (λ zs. x ∷ zs) (backwards_twice xs)

    same_rest : (x : N) (xs ys : List N) → IsRing order stuck before x xs → IsRing order stuck before x ys → xs ≡ ys
    same_rest x xs ys p q =
        let out : (zs : List N) → IsRing order stuck before x zs → ¬ IsAmong x (backwards zs) = λ zs r h. less_itself x (r.least x (among_backwards x zs h)) in
        let same : backwards xs ≡ backwards ys = one_back x x (backwards xs) (backwards ys) (back_from x xs x p.round) (back_from x ys x q.round) (out xs p) (out ys q) in
        sym (backwards_twice xs) ∙ ap backwards same ∙ backwards_twice ys

    pub one_cycle : (xs ys : List N) → IsCycle order stuck before xs → IsCycle order stuck before ys → xs ≡ ys
    one_cycle [] ys p q = absurd p
    one_cycle (x ∷ xs) [] p q = absurd q
    one_cycle (x ∷ xs) (y ∷ ys) p q =
        let first : x ≡ y = same_first x y xs ys p q in
        let P : N → Type 0 = λ z. IsRing order stuck before z ys in
        let rest : xs ≡ ys = same_rest x xs ys p (subst P (sym first) q) in
        ap (λ z. z ∷ xs) first ∙ ap (λ zs. y ∷ zs) rest

-- a cycle of a set is a cycle of each set with the same members
module _ {N : Type 0} (order : N → N → Ordering) (s t : N → Type 0) (before : N → N → Type 0) (to : (v : N) → s v → t v)
    (from : (v : N) → t v → s v) where
  blocker_along : (v u : N) → IsBlocker order s before v u → IsBlocker order t before v u
  blocker_along v u = least_along order (λ w. s w × before w u) (λ w. t w × before w u) (λ w h. (to w h.0, h.1)) (λ w h. (from w h.0, h.1)) v

  blocked_along : (a : N) (xs : List N) (b : N) → IsBlockedAlong order s before a xs b → IsBlockedAlong order t before a xs b
  blocked_along a [] b h = blocker_along a b h
  blocked_along a (x ∷ xs) b h = (blocker_along a x h.0, blocked_along x xs b h.1)

  chain_along : (k : ℕ) (u : N) → IsChain (IsLeast order s) (λ v w. IsBlocker order s before w v) k u
      → IsChain (IsLeast order t) (λ v w. IsBlocker order t before w v) k u
  chain_along zero u h = least_along order s t to from u h
  chain_along (suc k) u h = (h.0, (chain_along k h.0 h.1.0, blocker_along u h.0 h.1.1))

  pub cycle_along : (xs : List N) → IsCycle order s before xs → IsCycle order t before xs
  cycle_along [] h = h
  cycle_along (x ∷ xs) h = record {
    round = blocked_along x xs x h.round;
    least = h.least;
    met = record { steps = h.met.steps; chain = chain_along h.met.steps x h.met.chain };
  }
