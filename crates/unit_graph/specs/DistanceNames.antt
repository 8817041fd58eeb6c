-- Distances are carried from indices to names.
use Rattle.std.proofs.Common.{◌<◌, ◌∷◌, ◌≡◌}
use Rattle.unit_graph.specs.Prelude.{[], AllByRecursion, among_mapped, ap, AreNamedSuccessors, AreNames, chains_named, distance_cmp, index_of, inl, inr, IsAmong, IsChain, IsDistance, IsDistances, IsIndexing, IsStrictlySortedBy, IsTotalOrder, Less, List, map, mapped_from, names_compare, nat_cmp, Ordering, ordering_then, refl, subst, ℕ, ◌∙◌}

module _ {N : Type 0} (count : ℕ) (name : ℕ → N) (order : N → N → Ordering) (total : IsTotalOrder order) (n : IsIndexing count name order)
    (S : ℕ → Type 0) (S' : N → Type 0) (E : ℕ → ℕ → Type 0) (E' : N → N → Type 0) (sources : AreNames count name S S')
    (successors : AreNamedSuccessors count name E E') where
  chains : (k : ℕ) → AreNames count name (IsChain S E k) (IsChain S' E' k)
  chains = chains_named count name S S' E E' sources successors

  -- a distance and an index, with the name in place of the index
  abbrev pub named : ℕ × ℕ → ℕ × N
  named p = (p.0, name p.1)

  distance_within : (k i : ℕ) → IsDistance S E i k → i < count
  distance_within k i d = (chains k).within i d.chain

  distance_named : (k i : ℕ) → IsDistance S E i k → IsDistance S' E' (name i) k
  distance_named k i d = record {
    chain = (chains k).named i d.chain;
    least = λ j c. d.least j (index_of count name order total n (IsChain S E j) (IsChain S' E' j) (chains j) i (distance_within k i d) c);
  }

  distance_indexed : (k : ℕ) (u : N) → IsDistance S' E' u k → (i : ℕ) × (IsDistance S E i k × (name i ≡ u))
  distance_indexed k u d =
      let r = (chains k).indexed u d.chain in
      (r.0, (record { chain = r.1.0; least = λ j c. d.least j (subst (IsChain S' E' j) r.1.1 ((chains j).named r.0 c)) }, r.1.1))

  below_named : (k i : ℕ) (ps : List (ℕ × ℕ)) → i < count → ((p : ℕ × ℕ) → IsAmong p ps → p.1 < count)
      → AllByRecursion (λ p. distance_cmp (λ v. ⊥) E nat_cmp (k, i) p ≡ Less) ps
      → AllByRecursion (λ p. distance_cmp (λ v. ⊥) E' order (k, name i) p ≡ Less) (map named ps)
  below_named k i [] l w a = tt
  below_named k i (p ∷ ps) l w a = (
    ap (λ r. ordering_then (nat_cmp k p.0) r) (names_compare count name order total n i p.1 l (w p (inl refl))) ∙ a.0,
    below_named k i ps l (λ q h. w q (inr h)) a.1,
  )

  ascending : (ps : List (ℕ × ℕ)) → ((p : ℕ × ℕ) → IsAmong p ps → p.1 < count)
      → IsStrictlySortedBy (distance_cmp S E nat_cmp) ps → IsStrictlySortedBy (distance_cmp S' E' order) (map named ps)
  unfolding IsStrictlySortedBy
  ascending [] w s = tt
  ascending (p ∷ ps) w s = (below_named p.0 p.1 ps (w p (inl refl)) (λ q h. w q (inr h)) s.0, ascending ps (λ q h. w q (inr h)) s.1)

  -- the names of a list of distances are the list of distances of the names
  pub distances_named : (ps : List (ℕ × ℕ)) → IsDistances S E nat_cmp ps → IsDistances S' E' order (map named ps)
  distances_named ps d = record {
    ascending = ascending ps (λ p h. distance_within p.0 p.1 ((d.members p.0 p.1).0 h)) d.ascending;
    members = λ k u. (there k u, back k u);
  }
    where
      there : (k : ℕ) (u : N) → IsAmong {X = ℕ × N} (k, u) (map named ps) → IsDistance S' E' u k
      there k u h =
          let r = mapped_from named (k, u) ps h in
          let far : r.0.0 ≡ k = ap (λ (q : ℕ × N). q.0) r.1.1 in
          let who : name r.0.1 ≡ u = ap (λ (q : ℕ × N). q.1) r.1.1 in
          let P : N → Type 0 = λ v. IsDistance S' E' v k in
          let Q : ℕ → Type 0 = λ j. IsDistance S' E' (name r.0.1) j in
          subst P who (subst Q far (distance_named r.0.0 r.0.1 ((d.members r.0.0 r.0.1).0 r.1.0)))

      back : (k : ℕ) (u : N) → IsDistance S' E' u k → IsAmong {X = ℕ × N} (k, u) (map named ps)
      back k u e =
          let r = distance_indexed k u e in
          let P : N → Type 0 = λ v. IsAmong {X = ℕ × N} (k, v) (map named ps) in
          subst P r.1.1 (among_mapped named (k, r.0) ps ((d.members k r.0).1 r.1.0))
