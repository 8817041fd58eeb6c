-- Start lists, stuck nodes and cycles are carried from indices to names, and back.
use Rattle.std.proofs.Common.{◌++◌, ◌<◌, ◌∷◌, ◌≡◌}
use Rattle.start_order.specs.Prelude.{[], among_mapped, ap, AreNamedSuccessors, AreNames, index_of, inl, inr, IsAmong, IsAmong-append_left, IsIndexing, IsLeast, IsReached, IsTotalOrder, Less, List, Listed, listed_names, map, mapped_from, names_compare, nat_cmp, one_index, Ordering, reached_named, refl, subst, sym, ℕ, ◌∙◌}
use Rattle.start_order.specs.StartOrder.{CanStart, IsBlockedAlong, IsBlocker, IsCycle, IsKnot, IsStartList, IsStuck}

-- a list of indices that is split where the list of their names is
pub record IsCutAs {N : Type 0} (name : ℕ → N) (list : List ℕ) (prefix : List N) (u : N) (rest : List N) : Type 0 where
  pub before : List ℕ
  pub at : ℕ
  pub after : List ℕ
  pub cut : list ≡ before ++ at ∷ after
  pub prefix_is : map name before ≡ prefix
  pub at_is : name at ≡ u

cut_as : {N : Type 0} (name : ℕ → N) (list : List ℕ) (prefix : List N) (u : N) (rest : List N)
    → map name list ≡ prefix ++ u ∷ rest → IsCutAs name list prefix u rest
cut_as name [] [] u rest e = cc
cut_as name [] (v ∷ prefix) u rest e = cc
cut_as name (i ∷ list) [] u rest e = record { before = []; at = i; after = list; cut = refl; prefix_is = refl; at_is = cc }
cut_as name (i ∷ list) (v ∷ prefix) u rest e =
    let tails : map name list ≡ prefix ++ u ∷ rest = cc in
    let first : name i ≡ v = cc in
    let r = cut_as name list prefix u rest tails in
    record {
      before = i ∷ r.before;
      at = r.at;
      after = r.after;
      cut = ap (λ l. i ∷ l) r.cut;
      prefix_is = ap (λ l. name i ∷ l) r.prefix_is ∙ ap (λ v. v ∷ prefix) first;
      at_is = r.at_is;
    }

-- a list is split at one of its members
member_cut : {N : Type 0} (u : N) (list : List N) → IsAmong u list → (prefix : List N) × ((rest : List N) × (list ≡ prefix ++ u ∷ rest))
member_cut u [] h = absurd h
member_cut u (x ∷ xs) (inl e) = ([], (xs, ap (λ y. y ∷ xs) e))
member_cut u (x ∷ xs) (inr h) = let r = member_cut u xs h in (x ∷ r.0, (r.1.0, ap (λ l. x ∷ l) r.1.1))

module _ {N : Type 0} (count : ℕ) (name : ℕ → N) (order : N → N → Ordering) (total : IsTotalOrder order)
    (n : IsIndexing count name order) where
  -- the name of the least index is the least name
  pub least_named : (P : ℕ → Type 0) (Q : N → Type 0) → AreNames count name P Q → AreNames count name (IsLeast nat_cmp P) (IsLeast order Q)
  least_named P Q a = record { within = λ i l. a.within i l.member; named = to; indexed = from }
    where
      to : (i : ℕ) → IsLeast nat_cmp P i → IsLeast order Q (name i)
      to i l = record {
        member = a.named i l.member;
        least = λ v q h. (let r = a.indexed v q in
            let S : N → Type 0 = λ w. order w (name i) ≡ Less in
            l.least r.0 r.1.0 (sym (names_compare count name order total n r.0 i (a.within r.0 r.1.0) (a.within i l.member)) ∙ subst S (sym r.1.1) h));
      }

      from : (u : N) → IsLeast order Q u → (i : ℕ) × (IsLeast nat_cmp P i × (name i ≡ u))
      from u l =
          let r = a.indexed u l.member in (
            r.0,
            (
              record {
                member = r.1.0;
                least = λ j p h. (let T : N → Type 0 = λ w. order (name j) w ≡ Less in
                    l.least (name j) (a.named j p) (subst T r.1.1 (names_compare count name order total n j r.0 (a.within j p) (a.within r.0 r.1.0) ∙ h)));
              },
              r.1.1,
            ),
          )

  -- what is in two sets
  pub both_named : (P P' : ℕ → Type 0) (Q Q' : N → Type 0) → AreNames count name P Q → AreNames count name P' Q'
      → AreNames count name (λ i. P i × P' i) (λ u. Q u × Q' u)
  both_named P P' Q Q' a b = record {
    within = λ i h. a.within i h.0;
    named = λ i h. (a.named i h.0, b.named i h.1);
    indexed = λ u h. (let r = a.indexed u h.0 in
        (r.0, ((r.1.0, index_of count name order total n P' Q' b r.0 (a.within r.0 r.1.0) (subst Q' (sym r.1.1) h.1)), r.1.1)));
  }

  -- indices for the names of a list
  indices_for : (P : ℕ → Type 0) (Q : N → Type 0) → AreNames count name P Q → (us : List N) → ((u : N) → IsAmong u us → Q u)
      → (is : List ℕ) × ((map name is ≡ us) × ((i : ℕ) → IsAmong i is → P i))
  indices_for P Q a [] h = ([], (refl, λ i k. absurd k))
  indices_for P Q a (u ∷ us) h =
      let r = a.indexed u (h u (inl refl)) in
      let rs = indices_for P Q a us (λ v k. h v (inr k)) in
      (r.0 ∷ rs.0, (ap (λ v. v ∷ map name rs.0) r.1.1 ∙ ap (λ vs. u ∷ vs) rs.1.0, λ i k. elim k [ inl e ↦ subst P e r.1.0 | inr k' ↦ rs.1.1 i k' ]))

  module _ (chosen : ℕ → Type 0) (before : ℕ → ℕ → Type 0) (chosen' : N → Type 0) (before' : N → N → Type 0)
      (c : AreNames count name chosen chosen') (b : AreNamedSuccessors count name (λ u v. before v u) (λ u v. before' v u)) where
    pub can_start_named : (standing : ℕ → Type 0) (standing' : N → Type 0) → AreNames count name standing standing'
        → AreNames count name (CanStart chosen before standing) (CanStart chosen' before' standing')
    can_start_named standing standing' s = record { within = λ i f. c.within i f.is_chosen; named = to; indexed = from }
      where
        to : (i : ℕ) → CanStart chosen before standing i → CanStart chosen' before' standing' (name i)
        to i f =
            let l = c.within i f.is_chosen in
            record {
              is_chosen = c.named i f.is_chosen;
              waiting = λ h. f.waiting (index_of count name order total n standing standing' s i l h);
              ready = λ v h k. (let r = (b i l).indexed v k in
                  subst standing' r.1.1 (s.named r.0 (f.ready r.0 (index_of count name order total n chosen chosen' c r.0 ((b i l).within r.0 r.1.0) (subst chosen' (sym r.1.1) h)) r.1.0)));
            }

        from : (u : N) → CanStart chosen' before' standing' u → (i : ℕ) × (CanStart chosen before standing i × (name i ≡ u))
        from u f =
            let r = c.indexed u f.is_chosen in
            let l = c.within r.0 r.1.0 in (
              r.0,
              (
                record {
                  is_chosen = r.1.0;
                  waiting = λ h. f.waiting (subst standing' r.1.1 (s.named r.0 h));
                  ready = λ j h k. (let P : N → Type 0 = λ w. before' (name j) w in
                      index_of count name order total n standing standing' s j (c.within j h) (f.ready (name j) (c.named j h) (subst P r.1.1 ((b r.0 l).named j k))));
                },
                r.1.1,
              ),
            )

    -- the names of a start list are the start list of the names
    pub start_list_named : (list : List ℕ) → IsStartList nat_cmp chosen before list → IsStartList order chosen' before' (map name list)
    start_list_named list s = record { each_least = each; whole = whole }
      where
        within : (i : ℕ) → IsAmong i list → i < count
        within i h = let m = member_cut i list h in c.within i (s.each_least m.0 i m.1.0 m.1.1).member.is_chosen

        standing : (prefix : List ℕ) → ((i : ℕ) → IsAmong i prefix → i < count)
            → AreNames count name (CanStart chosen before (Listed prefix))
            (CanStart chosen' before' (Listed (map name prefix)))
        standing prefix h = can_start_named (Listed prefix) (Listed (map name prefix)) (listed_names count name prefix h)

        each : (prefix : List N) (u : N) (rest : List N) → map name list ≡ prefix ++ u ∷ rest
            → IsLeast order (CanStart chosen' before' (Listed prefix)) u
        each prefix u rest e =
            let r = cut_as name list prefix u rest e in
            let early : (i : ℕ) → IsAmong i r.before → i < count = λ i h. within i (let Q : List ℕ → Type 0 = λ l. IsAmong i l in subst Q (sym r.cut) (IsAmong-append_left i r.before (r.at ∷ r.after) h)) in
            let named = (least_named (CanStart chosen before (Listed r.before)) (CanStart chosen' before' (Listed (map name r.before))) (standing r.before early)).named r.at (s.each_least r.before r.at r.after r.cut) in
            let F : List N → Type 0 = λ f. IsLeast order (CanStart chosen' before' (Listed f)) (name r.at) in
            let U : N → Type 0 = λ v. IsLeast order (CanStart chosen' before' (Listed prefix)) v in
            subst U r.at_is (subst F r.prefix_is named)

        whole : (u : N) → ¬ CanStart chosen' before' (Listed (map name list)) u
        whole u f = let r = (standing list within).indexed u f in s.whole r.0 r.1.0

    -- the names of the stuck indices are the stuck names
    pub stuck_named : AreNames count name (IsStuck chosen before) (IsStuck chosen' before')
    stuck_named = record { within = λ i s. c.within i (s.tied.all_chosen i s.member); named = to; indexed = from }
      where
        to : (i : ℕ) → IsStuck chosen before i → IsStuck chosen' before' (name i)
        to i s = record {
          knot = map name s.knot;
          tied = record {
            all_chosen = λ u h. (let r = mapped_from name u s.knot h in subst chosen' r.1.1 (c.named r.0 (s.tied.all_chosen r.0 r.1.0)));
            blocked = λ u h. (let r = mapped_from name u s.knot h in
                let k = s.tied.blocked r.0 r.1.0 in
                let P : N → Type 0 = λ w. before' (name k.0) w in
                (name k.0, (among_mapped name k.0 s.knot k.1.0, subst P r.1.1 ((b r.0 (c.within r.0 (s.tied.all_chosen r.0 r.1.0))).named k.0 k.1.1))));
          };
          member = among_mapped name i s.knot s.member;
        }

        from : (u : N) → IsStuck chosen' before' u → (i : ℕ) × (IsStuck chosen before i × (name i ≡ u))
        from u s =
            let is = indices_for chosen chosen' c s.knot s.tied.all_chosen in
            let In : N → Type 0 = λ w. IsAmong w s.knot in
            let M : List N → Type 0 = λ l. IsAmong u l in
            let here = mapped_from name u is.0 (subst M (sym is.1.0) s.member) in
            let there : (i : ℕ) → IsAmong i is.0 → IsAmong (name i) s.knot = λ i h. (let Q : List N → Type 0 = λ l. IsAmong (name i) l in subst Q is.1.0 (among_mapped name i is.0 h)) in
            let tied : IsKnot chosen before is.0 = record {
              all_chosen = is.1.1;
              blocked = λ i h. (let k = s.tied.blocked (name i) (there i h) in
                  let l = c.within i (is.1.1 i h) in
                  let j = (b i l).indexed k.0 k.1.1 in
                  let Q : List N → Type 0 = λ m. IsAmong k.0 m in
                  let o = mapped_from name k.0 is.0 (subst Q (sym is.1.0) k.1.0) in
                  let same : o.0 ≡ j.0 = one_index count name order total n o.0 j.0 (c.within o.0 (is.1.1 o.0 o.1.0)) ((b i l).within j.0 j.1.0) (o.1.1 ∙ sym j.1.1) in
                  let R : ℕ → Type 0 = λ x. IsAmong x is.0 in
                  (j.0, (subst R same o.1.0, j.1.0)));
            } in
            (here.0, (record { knot = is.0; tied = tied; member = here.1.0 }, here.1.1))

  -- ---- cycles
  module _ (stuck : ℕ → Type 0) (before : ℕ → ℕ → Type 0) (stuck' : N → Type 0) (before' : N → N → Type 0)
      (s : AreNames count name stuck stuck') (b : AreNamedSuccessors count name (λ u v. before v u) (λ u v. before' v u)) where
    blockers_named : (u : ℕ) → u < count
        → AreNames count name (λ v. IsBlocker nat_cmp stuck before v u) (λ v. IsBlocker order stuck' before' v (name u))
    blockers_named u l =
        least_named (λ w. stuck w × before w u) (λ w. stuck' w × before' w (name u))
        (both_named stuck (λ w. before w u) stuck' (λ w. before' w (name u)) s (b u l))

    first_stuck : (a : ℕ) (xs : List ℕ) (z : ℕ) → IsBlockedAlong nat_cmp stuck before a xs z → stuck a
    first_stuck a [] z h = h.member.0
    first_stuck a (x ∷ xs) z h = h.0.member.0

    along_named : (a : ℕ) (xs : List ℕ) (z : ℕ) → z < count → IsBlockedAlong nat_cmp stuck before a xs z
        → IsBlockedAlong order stuck' before' (name a) (map name xs) (name z)
    along_named a [] z l h = (blockers_named z l).named a h
    along_named a (x ∷ xs) z l h = ((blockers_named x (s.within x (first_stuck x xs z h.1))).named a h.0, along_named x xs z l h.1)

    -- a chain of blockers between names, as one between indices
    record IsBackAlong (u : N) (vs : List N) (z : ℕ) : Type 0 where
      at : ℕ
      after : List ℕ
      at_is : name at ≡ u
      after_is : map name after ≡ vs
      along : IsBlockedAlong nat_cmp stuck before at after z

    along_indexed : (u : N) (vs : List N) (z : ℕ) → z < count → IsBlockedAlong order stuck' before' u vs (name z) → IsBackAlong u vs z
    along_indexed u [] z l h = let r = (blockers_named z l).indexed u h in record { at = r.0; after = []; at_is = r.1.1; after_is = refl; along = r.1.0 }
    along_indexed u (v ∷ vs) z l h =
        let r = along_indexed v vs z l h.1 in
        let P : N → Type 0 = λ w. IsBlocker order stuck' before' u w in
        let o = (blockers_named r.at (s.within r.at (first_stuck r.at r.after z r.along))).indexed u (subst P (sym r.at_is) h.0) in
        record {
          at = o.0;
          after = r.at ∷ r.after;
          at_is = o.1.1;
          after_is = ap (λ w. w ∷ map name r.after) r.at_is ∙ ap (λ ws. v ∷ ws) r.after_is;
          along = (o.1.0, r.along);
        }

    met_named : AreNames count name (IsReached (IsLeast nat_cmp stuck) (λ u v. IsBlocker nat_cmp stuck before v u))
        (IsReached (IsLeast order stuck') (λ u v. IsBlocker order stuck' before' v u))
    met_named =
        reached_named count name (IsLeast nat_cmp stuck) (IsLeast order stuck') (λ u v. IsBlocker nat_cmp stuck before v u) (λ u v. IsBlocker order stuck' before' v u)
        (least_named stuck stuck' s) blockers_named

    -- each of a chain of blockers is stuck
    along_stuck : (a : ℕ) (xs : List ℕ) (z u : ℕ) → IsBlockedAlong nat_cmp stuck before a xs z → IsAmong u xs → stuck u
    along_stuck a [] z u h m = absurd m
    along_stuck a (x ∷ xs) z u h (inl e) = subst stuck e (first_stuck x xs z h.1)
    along_stuck a (x ∷ xs) z u h (inr m) = along_stuck x xs z u h.1 m

    -- the names of a cycle are a cycle of names
    pub cycle_named : (list : List ℕ) → IsCycle nat_cmp stuck before list → IsCycle order stuck' before' (map name list)
    cycle_named [] h = h
    cycle_named (x ∷ xs) h =
        let l = s.within x (first_stuck x xs x h.round) in
        record {
          round = along_named x xs x l h.round;
          least = λ u m. (let r = mapped_from name u xs m in
              let P : N → Type 0 = λ w. order (name x) w ≡ Less in
              subst P r.1.1 (names_compare count name order total n x r.0 l (s.within r.0 (along_stuck x xs x r.0 h.round r.1.0)) ∙ h.least r.0 r.1.0));
          met = met_named.named x h.met;
        }

    -- and a cycle of names is that of a cycle of indices
    pub cycle_indexed : (names : List N) → IsCycle order stuck' before' names
        → (list : List ℕ) × (IsCycle nat_cmp stuck before list × (map name list ≡ names))
    cycle_indexed [] h = absurd h
    cycle_indexed (u ∷ us) h =
        let m = met_named.indexed u h.met in
        let l = met_named.within m.0 m.1.0 in
        let P : N → Type 0 = λ w. IsBlockedAlong order stuck' before' u us w in
        let r = along_indexed u us m.0 l (subst P (sym m.1.1) h.round) in
        let la = s.within r.at (first_stuck r.at r.after m.0 r.along) in
        let same : m.0 ≡ r.at = one_index count name order total n m.0 r.at l la (m.1.1 ∙ sym r.at_is) in
        let Q : ℕ → Type 0 = λ z. IsBlockedAlong nat_cmp stuck before r.at r.after z in
        let S : ℕ → Type 0 = λ z. IsReached (IsLeast nat_cmp stuck) (λ v w. IsBlocker nat_cmp stuck before w v) z in (
          r.at ∷ r.after,
          (
            record {
              round = subst Q same r.along;
              least = λ i k. (let T : N → Type 0 = λ w. order w (name i) ≡ Less in
                  let U : List N → Type 0 = λ ws. IsAmong (name i) ws in
                  sym (names_compare count name order total n r.at i la (s.within i (along_stuck r.at r.after m.0 i r.along k)))
                  ∙ subst T (sym r.at_is) (h.least (name i) (subst U r.after_is (among_mapped name i r.after k))));
              met = subst S same m.1.0;
            },
            ap (λ w. w ∷ map name r.after) r.at_is ∙ ap (λ ws. u ∷ ws) r.after_is,
          ),
        )
