-- The walk from the least stuck node, and the ring that it ends in.
use Rattle.std.proofs.Common.{◌++◌, ◌+◌, ◌<◌, ◌↔◌, ◌∷◌, ◌≡◌, ◌≤◌}
use Rattle.start_order.proofs.Prelude.{[], ap, append-nil, append_assoc, AreDistinct, arith, below_cmp, Bool, contains_from_among, drop, drop_more, get_or, get_or_default, inl, inr, IsAmong, IsAmong-append_cases, IsAmong-append_left, IsAmong-append_right, IsAmong-push, IsAmong-push_cases, IsBlockedAlong, IsBlocker, IsCycle, IsLeast, IsMember, IsMember-set, IsMember-set_other, IsMember-set_same, IsReached, IsWalk, LeadsBack, LeadsTo, length, List, nat_cmp, reached_closed, refl, reverse, reverse-append, set, subst, sym, take, take-append-drop, true, ℕ, ◌∙◌}

-- a set that agrees with a list still does when a node is added to both
pub agree_push : (bits : List Bool) (list : List ℕ) (u : ℕ) → u < length bits → ((v : ℕ) → IsMember bits v ↔ IsAmong v list) → (v : ℕ) → IsMember (set bits u true) v ↔ IsAmong v (list ++ u ∷ [])
agree_push bits list u lt h v = (
  λ m. elim (IsMember-set bits u v lt m) [
    | inl k ↦ IsAmong-append_left v list (u ∷ []) ((h v).0 k)
    | inr e ↦ (let P : ℕ → Type 0 = λ w. IsAmong w (list ++ u ∷ []) in subst P e (IsAmong-push u list))
  ],
  λ k. elim (IsAmong-push_cases u v list k) [
    | inl a ↦ IsMember-set_other bits u v ((h v).1 a)
    | inr e ↦ (let P : ℕ → Type 0 = λ w. IsMember (set bits u true) w in subst P e (IsMember-set_same bits u lt))
  ],
)

-- ---- lists of distinct members

distinct_push : (xs : List ℕ) (x : ℕ) → AreDistinct xs → ¬ IsAmong x xs → AreDistinct (xs ++ x ∷ [])
distinct_push [] x d out = (λ h. h, tt)
distinct_push (y ∷ ys) x d out = (λ h. elim (IsAmong-push_cases x y ys h) [ inl a ↦ d.0 a | inr e ↦ out (inl (sym e)) ], distinct_push ys x d.1 (λ h. out (inr h)))

distinct_after : (xs ys : List ℕ) → AreDistinct (xs ++ ys) → AreDistinct ys
distinct_after [] ys d = d
distinct_after (x ∷ xs) ys d = distinct_after xs ys d.1

-- the two parts are swapped
distinct_transposed : (xs ys : List ℕ) → AreDistinct (xs ++ ys) → AreDistinct (ys ++ xs)
distinct_transposed [] ys d = subst AreDistinct (sym (append-nil ys)) d
distinct_transposed (x ∷ xs) ys d =
    let more : AreDistinct ((ys ++ x ∷ []) ++ xs) = distinct_transposed xs (ys ++ x ∷ []) (subst AreDistinct (append_assoc xs ys (x ∷ [])) (distinct_push (xs ++ ys) x d.1 d.0)) in
    subst AreDistinct (append_assoc ys (x ∷ []) xs) more

reverse-cons : (x : ℕ) (xs : List ℕ) → reverse (x ∷ xs) ≡ reverse xs ++ x ∷ []
reverse-cons x xs = reverse-append (x ∷ []) xs

among_reverse : (u : ℕ) (xs : List ℕ) → IsAmong u (reverse xs) → IsAmong u xs
among_reverse u [] h = h
among_reverse u (x ∷ xs) h =
    let P : List ℕ → Type 0 = λ l. IsAmong u l in
    elim (IsAmong-push_cases x u (reverse xs) (subst P (reverse-cons x xs) h)) [ inl a ↦ inr (among_reverse u xs a) | inr e ↦ inl e ]

distinct_reverse : (xs : List ℕ) → AreDistinct xs → AreDistinct (reverse xs)
distinct_reverse [] d = d
distinct_reverse (x ∷ xs) d = subst AreDistinct (sym (reverse-cons x xs)) (distinct_push (reverse xs) x (distinct_reverse xs d.1) (λ h. d.0 (among_reverse x xs h)))

module _ (stuck : ℕ → Type 0) (before : ℕ → ℕ → Type 0) where
  abbrev Met : ℕ → Type 0
  Met t = IsReached (IsLeast nat_cmp stuck) (λ u v. IsBlocker nat_cmp stuck before v u) t

  -- ---- the walk

  leads_back_more : (u : ℕ) (ws : List ℕ) (v z : ℕ) → LeadsBack stuck before u ws v → IsBlocker nat_cmp stuck before z v → LeadsBack stuck before u (ws ++ v ∷ []) z
  leads_back_more u [] v z h l = (h, l)
  leads_back_more u (w ∷ ws) v z h l = (h.0, leads_back_more w ws v z h.1 l)

  leads_to_more : (met : List ℕ) (next z : ℕ) → LeadsTo stuck before met next → IsBlocker nat_cmp stuck before z next → LeadsTo stuck before (met ++ next ∷ []) z
  leads_to_more [] next z h l = l
  leads_to_more (t ∷ ts) next z h l = leads_back_more t ts next z h l

  pub IsWalk-none : (start : ℕ) → IsLeast nat_cmp stuck start → IsWalk stuck before [] start
  IsWalk-none start l = record {
    led = tt;
    distinct = tt;
    reached = λ t h. elim h [ inl a ↦ absurd a | inr e ↦ subst Met e (record { steps = 0; chain = l }) ];
  }

  pub IsWalk-more : (met : List ℕ) (next z : ℕ) → IsWalk stuck before met next → ¬ IsAmong next met → IsBlocker nat_cmp stuck before z next → IsWalk stuck before (met ++ next ∷ []) z
  IsWalk-more met next z w out l = record {
    led = leads_to_more met next z w.led l;
    distinct = distinct_push met next w.distinct out;
    reached = λ t h. elim h [
      | inl a ↦ w.reached t (IsAmong-push_cases next t met a)
      | inr e ↦ subst Met e ((reached_closed (IsLeast nat_cmp stuck) (λ u v. IsBlocker nat_cmp stuck before v u)).stepped next z (w.reached next (inr refl)) l)
    ];
  }

  -- ---- the ring

  -- each of the list is the blocker of the next, and the last of the first
  abbrev pub GoesRound : List ℕ → Type 0
  GoesRound [] = ⊥
  GoesRound (x ∷ xs) = IsBlockedAlong nat_cmp stuck before x xs x

  along_more : (a : ℕ) (ps : List ℕ) (x : ℕ) (qs : List ℕ) (z : ℕ) → IsBlockedAlong nat_cmp stuck before a ps x → IsBlockedAlong nat_cmp stuck before x qs z → IsBlockedAlong nat_cmp stuck before a (ps ++ x ∷ qs) z
  along_more a [] x qs z p q = (p, q)
  along_more a (y ∷ ps) x qs z p q = (p.0, along_more y ps x qs z p.1 q)

  along_prefix : (a : ℕ) (ps : List ℕ) (x : ℕ) (qs : List ℕ) (z : ℕ) → IsBlockedAlong nat_cmp stuck before a (ps ++ x ∷ qs) z → IsBlockedAlong nat_cmp stuck before a ps x × IsBlockedAlong nat_cmp stuck before x qs z
  along_prefix a [] x qs z h = h
  along_prefix a (y ∷ ps) x qs z h = let r = along_prefix y ps x qs z h.1 in ((h.0, r.0), r.1)

  -- a ring can be rotated to any place
  goes_round_transposed : (ps qs : List ℕ) → GoesRound (ps ++ qs) → GoesRound (qs ++ ps)
  goes_round_transposed [] qs h = subst GoesRound (sym (append-nil qs)) h
  goes_round_transposed (y ∷ ps) [] h = subst GoesRound (append-nil (y ∷ ps)) h
  goes_round_transposed (y ∷ ps) (x ∷ qs) h = let r = along_prefix y ps x qs y h in along_more x qs y ps x r.1 r.0

  -- what leads back over a list is blocked along the reversed list
  along_reverse : (u : ℕ) (ws : List ℕ) (v : ℕ) → LeadsBack stuck before u ws v → IsBlockedAlong nat_cmp stuck before v (reverse ws) u
  along_reverse u [] v h = h
  along_reverse u (w ∷ ws) v h =
      let P : List ℕ → Type 0 = λ l. IsBlockedAlong nat_cmp stuck before v l u in
      subst P (sym (reverse-cons w ws)) (along_more v (reverse ws) w [] u (along_reverse w ws v h.1) h.0)

  leads_back_after : (u : ℕ) (prefix : List ℕ) (x : ℕ) (ws : List ℕ) (v : ℕ) → LeadsBack stuck before u (prefix ++ x ∷ ws) v → LeadsBack stuck before x ws v
  leads_back_after u [] x ws v h = h.1
  leads_back_after u (y ∷ prefix) x ws v h = leads_back_after y prefix x ws v h.1

  leads_to_after : (prefix : List ℕ) (x : ℕ) (ws : List ℕ) (v : ℕ) → LeadsTo stuck before (prefix ++ x ∷ ws) v → LeadsBack stuck before x ws v
  leads_to_after [] x ws v h = h
  leads_to_after (y ∷ prefix) x ws v h = leads_back_after y prefix x ws v h

  -- from the node that the walk met twice, the walk is a ring
  closes : (prefix : List ℕ) (next : ℕ) (loop : List ℕ) → LeadsTo stuck before (prefix ++ next ∷ loop) next → GoesRound (reverse (next ∷ loop))
  closes prefix next loop h =
      subst GoesRound (sym (reverse-cons next loop)) (goes_round_transposed (next ∷ []) (reverse loop) (along_reverse next loop next (leads_to_after prefix next loop next h)))

  -- a ring that is rotated to its least node is the cycle
  ring_is_cycle : (ring : List ℕ) → GoesRound ring → AreDistinct ring → ((u : ℕ) → IsAmong u ring → Met u) → ((x : ℕ) (xs : List ℕ) → ring ≡ x ∷ xs → (u : ℕ) → IsAmong u xs → x ≤ u) → IsCycle nat_cmp stuck before ring
  ring_is_cycle [] g d m l = g
  ring_is_cycle (x ∷ xs) g d m l = record {
    round = g;
    least = λ u h. below_cmp x u (apart x u (l x xs refl u h) (λ e. d.0 (let P : ℕ → Type 0 = λ w. IsAmong w xs in subst P (sym e) h)));
    met = m x (inl refl);
  }
    where
      apart : (a b : ℕ) → a ≤ b → ¬ (a ≡ b) → a < b
      apart a b le ne = omega arith

  -- the list from a position on, reversed, and then rotated to the position of its least node
  pub cycle_of_walk : (met : List ℕ) (next at first : ℕ) (ring : List ℕ) → IsWalk stuck before met next → at < length met → get_or met at 0 ≡ next
      → ring ≡ reverse (drop at met) → first < length ring → ((k : ℕ) → k < length ring → get_or ring first 0 ≤ get_or ring k 0)
      → IsCycle nat_cmp stuck before (drop first ring ++ take first ring)
  cycle_of_walk met next at first ring w lt is e in' least = ring_is_cycle transposed (goes_round_transposed (take first ring) (drop first ring) (subst GoesRound (sym whole) round)) distinct met_all first_least
    where
      transposed : List ℕ
      transposed = drop first ring ++ take first ring

      loop : List ℕ
      loop = drop (at + 1) met

      after : drop at met ≡ next ∷ loop
      after = drop_more met at 0 lt ∙ ap (λ x. x ∷ drop (at + 1) met) is

      walked : met ≡ take at met ++ next ∷ loop
      walked = sym (take-append-drop at met) ∙ ap (λ l. take at met ++ l) after

      whole : take first ring ++ drop first ring ≡ ring
      whole = take-append-drop first ring

      ring_is : ring ≡ reverse (next ∷ loop)
      ring_is = e ∙ ap reverse after

      round : GoesRound ring
      round = subst GoesRound (sym ring_is) (closes (take at met) next loop (let P : List ℕ → Type 0 = λ l. LeadsTo stuck before l next in subst P walked w.led))

      distinct : AreDistinct (drop first ring ++ take first ring)
      distinct =
          distinct_transposed (take first ring) (drop first ring)
          (subst AreDistinct (sym whole) (subst AreDistinct (sym ring_is) (distinct_reverse (next ∷ loop) (distinct_after (take at met) (next ∷ loop) (subst AreDistinct walked w.distinct)))))

      in_ring : (u : ℕ) → IsAmong u (drop first ring ++ take first ring) → IsAmong u ring
      in_ring u h =
          let P : List ℕ → Type 0 = λ l. IsAmong u l in
          subst P whole (elim (IsAmong-append_cases u (drop first ring) (take first ring) h) [ inl a ↦ IsAmong-append_right u (take first ring) (drop first ring) a | inr a ↦ IsAmong-append_left u (take first ring) (drop first ring) a ])

      met_all : (u : ℕ) → IsAmong u (drop first ring ++ take first ring) → Met u
      met_all u h =
          let P : List ℕ → Type 0 = λ l. IsAmong u l in
          w.reached u (inl (subst P (sym walked) (IsAmong-append_right u (take at met) (next ∷ loop) (among_reverse u (next ∷ loop) (subst P ring_is (in_ring u h))))))

      first_least : (x : ℕ) (xs : List ℕ) → drop first ring ++ take first ring ≡ x ∷ xs → (u : ℕ) → IsAmong u xs → x ≤ u
      first_least x xs f u h =
          let begins : drop first ring ≡ get_or ring first 0 ∷ drop (first + 1) ring = drop_more ring first 0 in' in
          let both : get_or ring first 0 ∷ (drop (first + 1) ring ++ take first ring) ≡ x ∷ xs = sym (ap (λ l. l ++ take first ring) begins) ∙ f in
          let same : get_or ring first 0 ≡ x = cc in
          let P : List ℕ → Type 0 = λ l. IsAmong u l in
          let k = contains_from_among u ring (in_ring u (subst P (sym f) (inr h))) in
          let value : get_or ring k.0 0 ≡ u = get_or_default ring k.0 0 u k.1 ∙ k.2 in
          let low = least k.0 k.1 in
          omega (arith, low, value, same)
