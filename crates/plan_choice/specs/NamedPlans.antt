-- Plans and refusals are carried from indices to names.
use Rattle.std.proofs.Common.{◌<◌, ◌↔◌, ◌∷◌, ◌≡◌, ◌⊎◌}
use Rattle.plan_choice.specs.Prelude.{[], ap, AreNamedSuccessors, AreNames, Bool, both_named, closure_named, cycle_named, false, index_of, inl, inr, IsAmong, IsIndexing, IsReached, IsTotalOrder, IsTrue, least_named, Less, List, Listed, listed_names, map, Named, names_compare, nat_cmp, Ordering, reached_named, refl, start_list_named, stuck_named, subst, sym, ℕ, ◌∙◌}
use Rattle.plan_choice.specs.{Answers.{AreNeededConflicts, conflict, cycle, IsClearBelow, IsFirstPair, IsPlan, IsRefusal, IsUnloadedNeed, LacksRequisite, manual_start, need_fault, rank, Refusal, requisite, Stands, target_fault, WaitsForever}, Case.{Case}, NamedCases.{IsNamedCase, named_refusal}, SetLaws.{is_false, needs_itself, unlike}, Sets.{AreInConflict, AsksFor, GoesOn, IsChosen, IsDropped, IsExtra, IsGood, IsLeftAlone, IsLoser, IsNeeded, IsOutside, IsPulled, IsStoppedByConflict, Keeps, Lacks, LosesTo, MissesRequisite, Needs, NeedsNext, Precedes, Pulls, Starts, TakesAlong}}

-- sets with the same members
same_names : {N : Type 0} (count : ℕ) (name : ℕ → N) (P R : ℕ → Type 0) (Q S : N → Type 0) → AreNames count name P Q
    → ((i : ℕ) → P i ↔ R i) → ((u : N) → Q u ↔ S u) → AreNames count name R S
same_names count name P R Q S a p q = record {
  within = λ i h. a.within i ((p i).1 h);
  named = λ i h. (q (name i)).0 (a.named i ((p i).1 h));
  indexed = λ u h. (let r = a.indexed u ((q u).1 h) in (r.0, ((p r.0).0 r.1.0, r.1.1)));
}

-- what is in one of two sets
either_named : {N : Type 0} (count : ℕ) (name : ℕ → N) (P P' : ℕ → Type 0) (Q Q' : N → Type 0) → AreNames count name P Q
    → AreNames count name P' Q' → AreNames count name (λ i. P i ⊎ P' i) (λ u. Q u ⊎ Q' u)
either_named count name P P' Q Q' a b = record {
  within = λ i h. elim h [ inl k ↦ a.within i k | inr k ↦ b.within i k ];
  named = λ i h. elim h [ inl k ↦ inl (a.named i k) | inr k ↦ inr (b.named i k) ];
  indexed = λ u h. elim h [ inl k ↦ (let r = a.indexed u k in (r.0, (inl r.1.0, r.1.1))) | inr k ↦ (let r = b.indexed u k in (r.0, (inr r.1.0, r.1.1))) ];
}

-- a set of names, where something else holds
where_named : {N : Type 0} (count : ℕ) (name : ℕ → N) (A B : Type 0) (P : ℕ → Type 0) (Q : N → Type 0) → (A → B)
    → (B → A) → AreNames count name P Q → AreNames count name (λ i. A × P i) (λ u. B × Q u)
where_named count name A B P Q to from a = record {
  within = λ i h. a.within i h.1;
  named = λ i h. (to h.0, a.named i h.1);
  indexed = λ u h. (let r = a.indexed u h.1 in (r.0, ((from h.0, r.1.0), r.1.1)));
}

module _ {N : Type 0} (count : ℕ) (name : ℕ → N) (order : N → N → Ordering) (total : IsTotalOrder order)
    (n : IsIndexing count name order) where
  -- what is in one set and not in another
  without_named : (P P' : ℕ → Type 0) (Q Q' : N → Type 0) → AreNames count name P Q → AreNames count name P' Q'
      → AreNames count name (λ i. P i × ¬ P' i) (λ u. Q u × ¬ Q' u)
  without_named P P' Q Q' a b = record {
    within = λ i h. a.within i h.0;
    named = λ i h. (a.named i h.0, λ q. h.1 (index_of count name order total n P' Q' b i (a.within i h.0) q));
    indexed = λ u h. (let r = a.indexed u h.0 in (r.0, ((r.1.0, λ p. h.1 (subst Q' r.1.1 (b.named r.0 p))), r.1.1)));
  }

  -- the first pair of a relation, by name
  pair_named : (R : ℕ → ℕ → Type 0) (S : N → N → Type 0)
      → AreNames count name (λ x. (y : ℕ) × R x y) (λ x. (y : N) × S x y) → AreNamedSuccessors count name R S
      → (a b : ℕ) → IsFirstPair nat_cmp R a b → IsFirstPair order S (name a) (name b)
  pair_named R S o s a b f = record {
    outer = (least_named count name order total n (λ x. (y : ℕ) × R x y) (λ x. (y : N) × S x y) o).named a f.outer;
    inner = (least_named count name order total n (R a) (S (name a)) (s a (o.within a f.outer.member))).named b f.inner;
  }

  false_named : (P : ℕ → Bool) (Q : N → Bool) → AreNames count name (λ i. IsTrue (P i)) (λ u. IsTrue (Q u)) → (i : ℕ)
      → i < count → P i ≡ false → Q (name i) ≡ false
  false_named P Q a i l e = is_false (Q (name i)) (λ q. unlike (P i) e (index_of count name order total n (λ j. IsTrue (P j)) (λ u. IsTrue (Q u)) a i l q))

  false_index : (P : ℕ → Bool) (Q : N → Bool) → AreNames count name (λ i. IsTrue (P i)) (λ u. IsTrue (Q u)) → (i : ℕ)
      → Q (name i) ≡ false → P i ≡ false
  false_index P Q a i e = is_false (P i) (λ p. unlike (Q (name i)) e (a.named i p))

  -- the one name of an index
  one_named : (b : ℕ) → b < count → AreNames count name (λ j. b ≡ j) (λ u. name b ≡ u)
  one_named b l = record { within = λ i e. subst (λ x. x < count) e l; named = λ i e. ap name e; indexed = λ u e. (b, (refl, e)) }

  module _ (c : Case ℕ) (d : Case N) (h : IsNamedCase count name c d) where
    -- ---- where walks go on

    left_to : (i : ℕ) → IsLeftAlone c i → IsLeftAlone d (name i)
    left_to i k = (sym h.profile ∙ k.0, h.running.named i k.1)

    left_from : (i : ℕ) → i < count → IsLeftAlone d (name i) → IsLeftAlone c i
    left_from i l k = (h.profile ∙ k.0, index_of count name order total n (λ j. IsTrue (c.is_running j)) (λ u. IsTrue (d.is_running u)) h.running i l k.1)

    goes_to : (b i : ℕ) → i < count → GoesOn c b i → GoesOn d (name b) (name i)
    goes_to b i l (inl e) = inl (ap name e)
    goes_to b i l (inr free) = inr (λ k. free (left_from i l k))

    goes_from : (b i : ℕ) → b < count → i < count → GoesOn d (name b) (name i) → GoesOn c b i
    goes_from b i m l (inl e) = inl (index_of count name order total n (λ j. b ≡ j) (λ u. name b ≡ u) (one_named b m) i l e)
    goes_from b i m l (inr free) = inr (λ k. free (left_to i k))

    target_to : (i : ℕ) → i < count → GoesOn c c.target i → GoesOn d d.target (name i)
    target_to i l g = subst (λ t. GoesOn d t (name i)) h.target (goes_to c.target i l g)

    target_from : (i : ℕ) → i < count → GoesOn d d.target (name i) → GoesOn c c.target i
    target_from i l g = goes_from c.target i h.below l (subst (λ t. GoesOn d t (name i)) (sym h.target) g)

    next_named : (b : ℕ) → b < count → AreNamedSuccessors count name (NeedsNext c b) (NeedsNext d (name b))
    next_named b m i l = where_named count name (GoesOn c b i) (GoesOn d (name b) (name i)) (λ v. IsAmong v (c.needs i)) (λ v. IsAmong v (d.needs (name i))) (goes_to b i l) (goes_from b i m l) (h.needs i l)

    needs_named : (i : ℕ) → i < count → AreNames count name (Needs c i) (Needs d (name i))
    needs_named i l =
        reached_named count name (Listed (i ∷ [])) (Listed (name i ∷ [])) (NeedsNext c i) (NeedsNext d (name i))
        (listed_names count name (i ∷ []) (λ j k. elim k [ inl e ↦ subst (λ x. x < count) e l | inr none ↦ absurd none ])) (next_named i l)

    from_target : (E : ℕ → ℕ → Type 0) (F : N → N → Type 0) → AreNamedSuccessors count name E F
        → AreNames count name (IsReached (Listed (c.target ∷ [])) E) (IsReached (Listed (d.target ∷ [])) F)
    from_target E F s =
        subst (λ t. AreNames count name (IsReached (Listed (c.target ∷ [])) E) (IsReached (Listed (t ∷ [])) F)) h.target
        (reached_named count name (Listed (c.target ∷ [])) (Listed (name c.target ∷ [])) E F
        (listed_names count name (c.target ∷ []) (λ j k. elim k [ inl e ↦ subst (λ x. x < count) e h.below | inr none ↦ absurd none ])) s)

    needed_named : AreNames count name (IsNeeded c) (IsNeeded d)
    needed_named = subst (λ t. AreNames count name (IsNeeded c) (Needs d t)) h.target (needs_named c.target h.below)

    -- a relation between named units, by indices and by names
    step_index : (f : ℕ → List ℕ) (g : N → List N) → AreNamedSuccessors count name (Named f) (Named g) → (i j : ℕ)
        → i < count → j < count → IsAmong (name j) (g (name i)) → IsAmong j (f i)
    step_index f g s i j l m a = index_of count name order total n (λ x. IsAmong x (f i)) (λ u. IsAmong u (g (name i))) (s i l) j m a

    conflict_named : (i j : ℕ) → i < count → j < count → AreInConflict c i j → AreInConflict d (name i) (name j)
    conflict_named i j l m (inl a) = inl ((h.conflicts i l).named j a)
    conflict_named i j l m (inr a) = inr ((h.conflicts j m).named i a)

    conflict_index : (i j : ℕ) → i < count → j < count → AreInConflict d (name i) (name j) → AreInConflict c i j
    conflict_index i j l m (inl a) = inl (step_index c.conflicts d.conflicts h.conflicts i j l m a)
    conflict_index i j l m (inr a) = inr (step_index c.conflicts d.conflicts h.conflicts j i m l a)

    good_named : AreNames count name (IsGood c) (IsGood d)
    good_named = record { within = within; named = to; indexed = from }
      where
        within : (i : ℕ) → IsGood c i → i < count
        within i g = h.loaded.within i (g.all_loaded i (needs_itself c i))

        to : (i : ℕ) → IsGood c i → IsGood d (name i)
        to i g =
            let l = within i g in
            record {
              all_loaded = λ v k. (let j = (needs_named i l).indexed v k in subst (λ x. IsTrue (d.is_loaded x)) j.1.1 (h.loaded.named j.0 (g.all_loaded j.0 j.1.0)));
              requisites_run = λ e v w k a. (let j = (needs_named i l).indexed v k in
                  let m = (h.requisites j.0 ((needs_named i l).within j.0 j.1.0)).indexed w (subst (λ x. IsAmong w (d.requisites x)) (sym j.1.1) a) in
                  subst (λ x. IsTrue (d.is_running x)) m.1.1 (h.running.named m.0 (g.requisites_run (h.profile ∙ e) j.0 m.0 j.1.0 m.1.0)));
              at_peace = λ v w k m r. (let j = (needs_named i l).indexed v k in
                  let o = needed_named.indexed w m in
                  let q = subst (λ x. AreInConflict d x w) (sym j.1.1) r in
                  g.at_peace j.0 o.0 j.1.0 o.1.0 (conflict_index j.0 o.0 ((needs_named i l).within j.0 j.1.0) (needed_named.within o.0 o.1.0) (subst (λ x. AreInConflict d (name j.0) x) (sym o.1.1) q)));
            }

        from : (u : N) → IsGood d u → (i : ℕ) × (IsGood c i × (name i ≡ u))
        from u g =
            let r = h.loaded.indexed u (g.all_loaded u (needs_itself d u)) in
            let l = h.loaded.within r.0 r.1.0 in
            let g' : IsGood d (name r.0) = subst (IsGood d) (sym r.1.1) g in (
              r.0,
              (
                record {
                  all_loaded = λ v k. index_of count name order total n (λ i. IsTrue (c.is_loaded i)) (λ x. IsTrue (d.is_loaded x)) h.loaded v ((needs_named r.0 l).within v k) (g'.all_loaded (name v) ((needs_named r.0 l).named v k));
                  requisites_run = λ e v w k a. (let lv = (needs_named r.0 l).within v k in
                      index_of count name order total n (λ i. IsTrue (c.is_running i)) (λ x. IsTrue (d.is_running x)) h.running w ((h.requisites v lv).within w a)
                      (g'.requisites_run (sym h.profile ∙ e) (name v) (name w) ((needs_named r.0 l).named v k) ((h.requisites v lv).named w a)));
                  at_peace = λ v w k m q. g'.at_peace (name v) (name w) ((needs_named r.0 l).named v k) (needed_named.named w m) (conflict_named v w ((needs_named r.0 l).within v k) (needed_named.within w m) q);
                },
                r.1.1,
              ),
            )

    asks_named : AreNamedSuccessors count name (AsksFor c) (AsksFor d)
    asks_named i l = either_named count name (λ v. IsAmong v (c.needs i)) (λ v. IsAmong v (c.wants i) × IsGood c v) (λ v. IsAmong v (d.needs (name i))) (λ v. IsAmong v (d.wants (name i)) × IsGood d v) (h.needs i l)
        (both_named count name order total n (λ v. IsAmong v (c.wants i)) (IsGood c) (λ v. IsAmong v (d.wants (name i))) (IsGood d) (h.wants i l) good_named)

    pulled_named : AreNames count name (IsPulled c) (IsPulled d)
    pulled_named = from_target (Pulls c) (Pulls d) (λ i l. where_named count name (GoesOn c c.target i) (GoesOn d d.target (name i)) (AsksFor c i) (AsksFor d (name i)) (target_to i l) (target_from i l) (asks_named i l))

    extra_named : AreNames count name (IsExtra c) (IsExtra d)
    extra_named = same_names count name (λ i. IsPulled c i × ¬ IsNeeded c i) (IsExtra c) (λ u. IsPulled d u × ¬ IsNeeded d u) (IsExtra d) (without_named (IsPulled c) (IsNeeded c) (IsPulled d) (IsNeeded d) pulled_named needed_named)
        (λ i. (λ p. record { pulled = p.0; beyond = p.1 }, λ e. (e.pulled, e.beyond))) (λ u. (λ p. record { pulled = p.0; beyond = p.1 }, λ e. (e.pulled, e.beyond)))

    -- ---- what loses

    lacks_name : (i j : ℕ) → i < count → Lacks c i j → Lacks d (name i) (name j)
    lacks_name i j l k =
        let m = (h.requisites i l).within j k.asked in
        record {
          asked = (h.requisites i l).named j k.asked;
          rests = false_named c.is_running d.is_running h.running j m k.rests;
          unpulled = λ e q. k.unpulled (h.profile ∙ e) (index_of count name order total n (IsPulled c) (IsPulled d) pulled_named j m q);
        }

    lacks_index : (i : ℕ) → i < count → (v : N) → Lacks d (name i) v → (j : ℕ) × (Lacks c i j × (name j ≡ v))
    lacks_index i l v k =
        let o = (h.requisites i l).indexed v k.asked in (
          o.0,
          (
            record {
              asked = o.1.0;
              rests = false_index c.is_running d.is_running h.running o.0 (subst (λ x. d.is_running x ≡ false) (sym o.1.1) k.rests);
              unpulled = λ e q. k.unpulled (sym h.profile ∙ e) (subst (IsPulled d) o.1.1 (pulled_named.named o.0 q));
            },
            o.1.1,
          ),
        )

    misses_named : AreNames count name (MissesRequisite nat_cmp c) (MissesRequisite order d)
    misses_named = record {
      within = λ i k. extra_named.within i k.extra;
      named = λ i k. (let l = extra_named.within i k.extra in
          record {
            manager = sym h.profile ∙ k.manager;
            extra = extra_named.named i k.extra;
            rests = false_named c.is_running d.is_running h.running i l k.rests;
            requisite = name k.requisite;
            lacks = lacks_name i k.requisite l k.lacks;
          });
      indexed = λ u k. (let x = extra_named.indexed u k.extra in
          let o = lacks_index x.0 (extra_named.within x.0 x.1.0) k.requisite (subst (λ v. Lacks d v k.requisite) (sym x.1.1) k.lacks) in (
            x.0,
            (
              record {
                manager = h.profile ∙ k.manager;
                extra = x.1.0;
                rests = false_index c.is_running d.is_running h.running x.0 (subst (λ v. d.is_running v ≡ false) (sym x.1.1) k.rests);
                requisite = o.0;
                lacks = o.1.0;
              },
              x.1.1,
            ),
          ));
    }

    loses_named : AreNames count name (λ i. (w : ℕ) × LosesTo nat_cmp c i w) (λ u. (w : N) × LosesTo order d u w)
    loses_named = record { within = λ i k. extra_named.within i k.1.extra; named = to; indexed = from }
      where
        to : (i : ℕ) → (w : ℕ) × LosesTo nat_cmp c i w → (w : N) × LosesTo order d (name i) w
        to i k =
            let l = extra_named.within i k.1.extra in
            let lw = extra_named.within k.0 k.1.other_extra in (
              name k.0,
              record {
                extra = extra_named.named i k.1.extra;
                other_extra = extra_named.named k.0 k.1.other_extra;
                is_named = (h.conflicts k.0 lw).named i k.1.is_named;
                greater = λ a. names_compare count name order total n k.0 i lw l ∙ k.1.greater (step_index c.conflicts d.conflicts h.conflicts i k.0 l lw a);
              },
            )

        from : (u : N) → (w : N) × LosesTo order d u w → (i : ℕ) × (((w : ℕ) × LosesTo nat_cmp c i w) × (name i ≡ u))
        from u k =
            let x = extra_named.indexed u k.1.extra in
            let lx = extra_named.within x.0 x.1.0 in
            let w = extra_named.indexed k.0 k.1.other_extra in
            let lw = extra_named.within w.0 w.1.0 in
            let a : IsAmong (name x.0) (d.conflicts (name w.0)) = subst (λ v. IsAmong v (d.conflicts (name w.0))) (sym x.1.1) (subst (λ v. IsAmong u (d.conflicts v)) (sym w.1.1) k.1.is_named) in
            let greater : IsAmong w.0 (c.conflicts x.0) → nat_cmp w.0 x.0 ≡ Less =
            λ m. (let named : IsAmong k.0 (d.conflicts u) = subst (λ v. IsAmong v (d.conflicts u)) w.1.1 (subst (λ v. IsAmong (name w.0) (d.conflicts v)) x.1.1 ((h.conflicts x.0 lx).named w.0 m)) in
            let less : order (name w.0) (name x.0) ≡ Less = subst (λ v. order v (name x.0) ≡ Less) (sym w.1.1) (subst (λ v. order k.0 v ≡ Less) (sym x.1.1) (k.1.greater named)) in
            sym (names_compare count name order total n w.0 x.0 lw lx) ∙ less) in
            (x.0, ((w.0, record { extra = x.1.0; other_extra = w.1.0; is_named = step_index c.conflicts d.conflicts h.conflicts w.0 x.0 lw lx a; greater = greater }), x.1.1))

    loser_named : AreNames count name (IsLoser nat_cmp c) (IsLoser order d)
    loser_named = either_named count name (λ i. (w : ℕ) × LosesTo nat_cmp c i w) (MissesRequisite nat_cmp c) (λ u. (w : N) × LosesTo order d u w) (MissesRequisite order d) loses_named misses_named

    dropped_named : AreNames count name (IsDropped nat_cmp c) (IsDropped order d)
    dropped_named = record { within = λ i k. pulled_named.within i k.pulled; named = to; indexed = from }
      where
        to : (i : ℕ) → IsDropped nat_cmp c i → IsDropped order d (name i)
        to i k = record {
          pulled = pulled_named.named i k.pulled;
          loser = name k.loser;
          lost = loser_named.named k.loser k.lost;
          needed = (needs_named i (pulled_named.within i k.pulled)).named k.loser k.needed;
        }

        from : (u : N) → IsDropped order d u → (i : ℕ) × (IsDropped nat_cmp c i × (name i ≡ u))
        from u k =
            let r = pulled_named.indexed u k.pulled in
            let l = pulled_named.within r.0 r.1.0 in
            let x = loser_named.indexed k.loser k.lost in
            let b : Needs d (name r.0) (name x.0) = subst (λ v. Needs d v (name x.0)) (sym r.1.1) (subst (λ v. Needs d u v) (sym x.1.1) k.needed) in (
              r.0,
              (
                record {
                  pulled = r.1.0;
                  loser = x.0;
                  lost = x.1.0;
                  needed = index_of count name order total n (Needs c r.0) (Needs d (name r.0)) (needs_named r.0 l) x.0 (loser_named.within x.0 x.1.0) b;
                },
                r.1.1,
              ),
            )

    chosen_named : AreNames count name (IsChosen nat_cmp c) (IsChosen order d)
    chosen_named = from_target (Keeps nat_cmp c) (Keeps order d) keeps
      where
        keeps : AreNamedSuccessors count name (Keeps nat_cmp c) (Keeps order d)
        keeps i l = same_names count name (λ v. GoesOn c c.target i × ((IsAmong v (c.needs i) ⊎ IsAmong v (c.wants i)) × (IsPulled c v × ¬ IsDropped nat_cmp c v))) (Keeps nat_cmp c i)
            (λ v. GoesOn d d.target (name i) × ((IsAmong v (d.needs (name i)) ⊎ IsAmong v (d.wants (name i))) × (IsPulled d v × ¬ IsDropped order d v))) (Keeps order d (name i))
            (where_named count name (GoesOn c c.target i) (GoesOn d d.target (name i)) (λ v. (IsAmong v (c.needs i) ⊎ IsAmong v (c.wants i)) × (IsPulled c v × ¬ IsDropped nat_cmp c v))
            (λ v. (IsAmong v (d.needs (name i)) ⊎ IsAmong v (d.wants (name i))) × (IsPulled d v × ¬ IsDropped order d v)) (target_to i l) (target_from i l)
            (both_named count name order total n (λ v. IsAmong v (c.needs i) ⊎ IsAmong v (c.wants i)) (λ v. IsPulled c v × ¬ IsDropped nat_cmp c v)
            (λ v. IsAmong v (d.needs (name i)) ⊎ IsAmong v (d.wants (name i))) (λ v. IsPulled d v × ¬ IsDropped order d v)
            (either_named count name (λ v. IsAmong v (c.needs i)) (λ v. IsAmong v (c.wants i)) (λ v. IsAmong v (d.needs (name i))) (λ v. IsAmong v (d.wants (name i))) (h.needs i l) (h.wants i l))
            (without_named (IsPulled c) (IsDropped nat_cmp c) (IsPulled d) (IsDropped order d) pulled_named dropped_named)))
            (λ v. (λ q. record { goes_on = q.0; asked = q.1.0; pulled = q.1.1.0; stays = q.1.1.1 }, λ k. (k.goes_on, (k.asked, (k.pulled, k.stays)))))
            (λ v. (λ q. record { goes_on = q.0; asked = q.1.0; pulled = q.1.1.0; stays = q.1.1.1 }, λ k. (k.goes_on, (k.asked, (k.pulled, k.stays)))))

    pub starts_named : AreNames count name (Starts nat_cmp c) (Starts order d)
    starts_named = same_names count name (λ i. IsChosen nat_cmp c i × ¬ IsTrue (c.is_running i)) (Starts nat_cmp c) (λ u. IsChosen order d u × ¬ IsTrue (d.is_running u)) (Starts order d)
        (without_named (IsChosen nat_cmp c) (λ i. IsTrue (c.is_running i)) (IsChosen order d) (λ u. IsTrue (d.is_running u)) chosen_named h.running)
        (λ i. (λ p. record { chosen = p.0; rests = p.1 }, λ s. (s.chosen, s.rests))) (λ u. (λ p. record { chosen = p.0; rests = p.1 }, λ s. (s.chosen, s.rests)))

    outside_named : AreNames count name (IsOutside nat_cmp c) (IsOutside order d)
    outside_named = same_names count name (λ i. (IsTrue (c.is_running i) × ¬ IsChosen nat_cmp c i) × ¬ IsTrue (c.is_perpetual i)) (IsOutside nat_cmp c) (λ u. (IsTrue (d.is_running u) × ¬ IsChosen order d u) × ¬ IsTrue (d.is_perpetual u)) (IsOutside order d)
        (without_named (λ i. IsTrue (c.is_running i) × ¬ IsChosen nat_cmp c i) (λ i. IsTrue (c.is_perpetual i)) (λ u. IsTrue (d.is_running u) × ¬ IsChosen order d u) (λ u. IsTrue (d.is_perpetual u))
        (without_named (λ i. IsTrue (c.is_running i)) (IsChosen nat_cmp c) (λ u. IsTrue (d.is_running u)) (IsChosen order d) h.running chosen_named) h.perpetual)
        (λ i. (λ q. record { runs = q.0.0; unchosen = q.0.1; may_stop = is_false (c.is_perpetual i) q.1 }, λ s. ((s.runs, s.unchosen), unlike (c.is_perpetual i) s.may_stop)))
        (λ u. (λ q. record { runs = q.0.0; unchosen = q.0.1; may_stop = is_false (d.is_perpetual u) q.1 }, λ s. ((s.runs, s.unchosen), unlike (d.is_perpetual u) s.may_stop)))

    stopped_by_conflict_named : AreNames count name (IsStoppedByConflict nat_cmp c) (IsStoppedByConflict order d)
    stopped_by_conflict_named = record {
      within = λ i k. outside_named.within i k.outside;
      named = λ i k. record {
        outside = outside_named.named i k.outside;
        conflicting_unit = name k.conflicting_unit;
        chosen = chosen_named.named k.conflicting_unit k.chosen;
        counts = target_to k.conflicting_unit (chosen_named.within k.conflicting_unit k.chosen) k.counts;
        conflict = conflict_named i k.conflicting_unit (outside_named.within i k.outside) (chosen_named.within k.conflicting_unit k.chosen) k.conflict;
      };
      indexed = λ u k. (let r = outside_named.indexed u k.outside in
          let o = chosen_named.indexed k.conflicting_unit k.chosen in
          let q : AreInConflict d (name r.0) (name o.0) = subst (λ v. AreInConflict d v (name o.0)) (sym r.1.1) (subst (λ v. AreInConflict d u v) (sym o.1.1) k.conflict) in
          let lo = chosen_named.within o.0 o.1.0 in (
            r.0,
            (
              record {
                outside = r.1.0;
                conflicting_unit = o.0;
                chosen = o.1.0;
                counts = target_from o.0 lo (subst (GoesOn d d.target) (sym o.1.1) k.counts);
                conflict = conflict_index r.0 o.0 (outside_named.within r.0 r.1.0) lo q;
              },
              r.1.1,
            ),
          ));
    }

    takes_named : AreNamedSuccessors count name (TakesAlong nat_cmp c) (TakesAlong order d)
    takes_named i l = record {
      within = λ j k. outside_named.within j k.outside;
      named = λ j k. record { outside = outside_named.named j k.outside; tied = (h.stops_with j (outside_named.within j k.outside)).named i k.tied };
      indexed = λ u k. (let r = outside_named.indexed u k.outside in
          let lr = outside_named.within r.0 r.1.0 in
          let a : IsAmong (name i) (d.stops_with (name r.0)) = subst (λ v. IsAmong (name i) (d.stops_with v)) (sym r.1.1) k.tied in
          (r.0, (record { outside = r.1.0; tied = step_index c.stops_with d.stops_with h.stops_with r.0 i lr l a }, r.1.1)));
    }

    waits_named : AreNames count name (WaitsForever nat_cmp c) (WaitsForever order d)
    waits_named = stuck_named count name order total n (Starts nat_cmp c) (Precedes c) (Starts order d) (Precedes d) starts_named h.predecessors

    clear_named : (k : ℕ) → IsClearBelow nat_cmp c k → IsClearBelow order d k
    clear_named k s = record {
      target_loaded = λ l. subst (λ u. IsTrue (d.is_loaded u)) h.target (h.loaded.named c.target (s.target_loaded l));
      needs_loaded = λ l u m. (let r = needed_named.indexed u m in subst (λ v. IsTrue (d.is_loaded v)) r.1.1 (h.loaded.named r.0 (s.needs_loaded l r.0 r.1.0)));
      may_start = λ l. h.refuses ∙ s.may_start l;
      requisites_there = λ l u v m k. (let r = needed_named.indexed u m in
          let o = lacks_index r.0 (needed_named.within r.0 r.1.0) v (subst (λ x. Lacks d x v) (sym r.1.1) k) in
          s.requisites_there l r.0 o.0 r.1.0 o.1.0);
      at_peace = λ l u v m k q. (let r = needed_named.indexed u m in
          let o = needed_named.indexed v k in
          s.at_peace l r.0 o.0 r.1.0 o.1.0 (conflict_index r.0 o.0 (needed_named.within r.0 r.1.0) (needed_named.within o.0 o.1.0)
          (subst (λ x. AreInConflict d x (name o.0)) (sym r.1.1) (subst (λ x. AreInConflict d u x) (sym o.1.1) q))));
      none_waits = λ l u w. (let r = waits_named.indexed u w in s.none_waits l r.0 r.1.0);
    }

    -- the names of a plan are a plan over names
    pub plan_named : (stops starts : List ℕ) → IsPlan nat_cmp c stops starts → IsPlan order d (map name stops) (map name starts)
    plan_named stops starts p = record {
      clear = clear_named 7 p.clear;
      stopped = closure_named count name order total n (IsStoppedByConflict nat_cmp c) (IsStoppedByConflict order d) (TakesAlong nat_cmp c) (TakesAlong order d) stopped_by_conflict_named takes_named stops p.stopped;
      started = start_list_named count name order total n (Starts nat_cmp c) (Precedes c) (Starts order d) (Precedes d) starts_named h.predecessors starts p.started;
    }

    -- ---- refusals

    unloaded_named : AreNames count name (IsUnloadedNeed nat_cmp c) (IsUnloadedNeed order d)
    unloaded_named = record {
      within = λ i k. needed_named.within i k.0;
      named = λ i k. (needed_named.named i k.0, false_named c.is_loaded d.is_loaded h.loaded i (needed_named.within i k.0) k.1);
      indexed = λ u k. (let r = needed_named.indexed u k.0 in (r.0, ((r.1.0, false_index c.is_loaded d.is_loaded h.loaded r.0 (subst (λ v. d.is_loaded v ≡ false) (sym r.1.1) k.1)), r.1.1)));
    }

    lacks_to : (i j : ℕ) → LacksRequisite nat_cmp c i j → LacksRequisite order d (name i) (name j)
    lacks_to i j k = (needed_named.named i k.0, lacks_name i j (needed_named.within i k.0) k.1)

    lacks_from : (i : ℕ) → i < count → (v : N) → LacksRequisite order d (name i) v → (j : ℕ) × (LacksRequisite nat_cmp c i j × (name j ≡ v))
    lacks_from i l v k = let o = lacks_index i l v k.1 in (o.0, ((index_of count name order total n (IsNeeded c) (IsNeeded d) needed_named i l k.0, o.1.0), o.1.1))

    conflicting_to : (i j : ℕ) → AreNeededConflicts nat_cmp c i j → AreNeededConflicts order d (name i) (name j)
    conflicting_to i j k = (needed_named.named i k.0, needed_named.named j k.1, conflict_named i j (needed_named.within i k.0) (needed_named.within j k.1) k.2)

    conflicting_from : (i : ℕ) → i < count → (v : N) → AreNeededConflicts order d (name i) v
        → (j : ℕ) × (AreNeededConflicts nat_cmp c i j × (name j ≡ v))
    conflicting_from i l v k =
        let o = needed_named.indexed v k.1 in
        (o.0, ((index_of count name order total n (IsNeeded c) (IsNeeded d) needed_named i l k.0, o.1.0, conflict_index i o.0 l (needed_named.within o.0 o.1.0) (subst (λ x. AreInConflict d (name i) x) (sym o.1.1) k.2)), o.1.1))

    -- the first pair of a relation between needed units and other units, by name
    needed_pair_named : (R : ℕ → ℕ → Type 0) (S : N → N → Type 0) → ((i j : ℕ) → R i j → IsNeeded c i) → ((x y : N) → S x y → IsNeeded d x)
        → AreNamedSuccessors count name R S → (a b : ℕ) → IsFirstPair nat_cmp R a b → IsFirstPair order S (name a) (name b)
    needed_pair_named R S indices names s = pair_named R S
        (record {
          within = λ i k. needed_named.within i (indices i k.0 k.1);
          named = λ i k. (name k.0, (s i (needed_named.within i (indices i k.0 k.1))).named k.0 k.1);
          indexed = λ x k. (let r = needed_named.indexed x (names x k.0 k.1) in
              let j = (s r.0 (needed_named.within r.0 r.1.0)).indexed k.0 (subst (λ y. S y k.0) (sym r.1.1) k.1) in
              (r.0, ((j.0, j.1.0), r.1.1)));
        })
        s

    stands_named : (r : Refusal ℕ) → Stands nat_cmp c r → Stands order d (named_refusal name r)
    stands_named (target_fault u) s = (ap name s.0 ∙ h.target, subst (λ t. d.is_loaded t ≡ false) h.target (false_named c.is_loaded d.is_loaded h.loaded c.target h.below s.1))
    stands_named (need_fault u) s = (least_named count name order total n (IsUnloadedNeed nat_cmp c) (IsUnloadedNeed order d) unloaded_named).named u s
    stands_named manual_start s = h.refuses ∙ s
    stands_named (requisite u v) s = needed_pair_named (LacksRequisite nat_cmp c) (LacksRequisite order d) (λ i j k. k.0) (λ x y k. k.0)
        (λ i l. record { within = λ j k. (h.requisites i l).within j k.1.asked; named = lacks_to i; indexed = lacks_from i l }) u v s
    stands_named (conflict u v) s = needed_pair_named (AreNeededConflicts nat_cmp c) (AreNeededConflicts order d) (λ i j k. k.0) (λ x y k. k.0)
        (λ i l. record { within = λ j k. needed_named.within j k.1; named = conflicting_to i; indexed = conflicting_from i l }) u v s
    stands_named (cycle list) s = cycle_named count name order total n (WaitsForever nat_cmp c) (Precedes c) (WaitsForever order d) (Precedes d) waits_named h.predecessors list s

    rank_named : (r : Refusal ℕ) → rank r ≡ rank (named_refusal name r)
    rank_named (target_fault u) = refl
    rank_named (need_fault u) = refl
    rank_named manual_start = refl
    rank_named (requisite u v) = refl
    rank_named (conflict u v) = refl
    rank_named (cycle list) = refl

    -- and the refusal with names in place of indices is that over names
    pub refusal_is_named : (r : Refusal ℕ) → IsRefusal nat_cmp c r → IsRefusal order d (named_refusal name r)
    refusal_is_named r s = record { stands = stands_named r s.stands; clear = subst (λ k. IsClearBelow order d k) (rank_named r) (clear_named (rank r) s.clear) }
