-- The case of a request, by index and by name.
use Rattle.std.proofs.Common.{◌<◌, ◌||◌, ◌↔◌, ◌≡◌, ◌⊎◌}
use Rattle.start_plan.proofs.Prelude.{among_mapped, any-from_IsAmong, ap, AreNamedSuccessors, AreNames, AreOpposite, AsksTemplate, Bool, count_of, DepKind, EdgeMap, edges_of, false, GraphMap, HasInverses, index_of, inl, inr, inverse, is_same, IsAmong, IsAmong-from_any, IsIndexFor, IsIndexing, IsKnown, IsMember, IsOfGraph, IsTrue, LeadsBy, List, list_any, Listed, LoadMap, main_of, map, mapped_from, Name, name_at, name_cmp, Named, named_by, names_all, names_along, names_either, names_in, nat_list_cmp_total, opposite_from, refl, Request, ResolvesTo, subst, sym, true, unit_index, unwrap_or, ℕ, ◌∙◌}

-- where no name is a template, each resolves to a unit
module _ (load : LoadMap) (request : Request) (names : IsOfGraph load request) (whole : ¬ AsksTemplate request) where
  pub target_known : IsKnown load request.target
  target_known = elim (names request.target (inl refl)) [ inl t ↦ absurd (whole (inl t)) | inr k ↦ k ]

  pub running_known : (n : Name) → IsAmong n request.running → IsKnown load n
  running_known n h = elim (names n (inr h)) [ inl t ↦ absurd (whole (inr (n, h, t))) | inr k ↦ k ]

pub main_is : (load : LoadMap) (name main : Name) → ResolvesTo load name main → main_of load name ≡ main
main_is load name main s = ap (λ o. unwrap_or o name) s.main_is

-- the set of the units that names resolve to, by name
pub running_named : (load : LoadMap) (names : List Name) → ((n : Name) → IsAmong n names → IsKnown load n) → (bits : List Bool)
    → ((i : ℕ) → IsMember bits i ↔ ((n : Name) × IsAmong n names × IsIndexFor load n i))
    → AreNames (count_of load) (name_at load) (IsMember bits) (λ u. IsTrue (list_any (is_same u) (map (main_of load) names)))
running_named load names known bits member = record { within = λ i m. ((member i).0 m).2.index_is.below; named = named; indexed = indexed }
  where
    named : (i : ℕ) → IsMember bits i → IsTrue (list_any (is_same (name_at load i)) (map (main_of load) names))
    named i m =
        let r = (member i).0 m in
        let P : Name → Type 0 = λ v. IsAmong v (map (main_of load) names) in
        let e : main_of load r.0 ≡ name_at load i = main_is load r.0 r.2.main r.2.stands ∙ sym r.2.index_is.named in
        any-from_IsAmong (name_at load i) (map (main_of load) names) (subst P e (among_mapped (main_of load) r.0 names r.1))

    indexed : (u : Name) → IsTrue (list_any (is_same u) (map (main_of load) names)) → (i : ℕ) × (IsMember bits i × (name_at load i ≡ u))
    indexed u h =
        let r = mapped_from (main_of load) u names (IsAmong-from_any u (map (main_of load) names) h) in
        let k = known r.0 r.1.0 in
        let i = unit_index load k.0 k.1.unit in
        let index : IsIndexFor load r.0 i.0 = record { main = k.0; stands = k.1; index_is = record { below = i.1.0; named = i.1.1; unit = k.1.unit } } in
        (i.0, ((member i.0).1 (r.0, r.1.0, index), i.1.1 ∙ sym (main_is load r.0 k.0 k.1) ∙ r.1.1))

-- the edges of some kinds, as lists of names
pub edge_successors : (load : LoadMap) (edges : EdgeMap) (deps : List DepKind) (next : ℕ → List ℕ)
    → AreNamedSuccessors (count_of load) (name_at load) (Named next) (LeadsBy edges deps)
    → AreNamedSuccessors (count_of load) (name_at load) (Named next) (Named (edges_of edges deps))
edge_successors load edges deps next successors i l =
    let u = name_at load i in
    names_along (count_of load) (name_at load) (Named next i) (Named next i) (LeadsBy edges deps u) (Named (edges_of edges deps) u) (successors i l)
    (λ j. (λ h. h, λ h. h))
    (λ v. (λ h. names_all (λ dep. names_in edges dep u) deps h.0 v h.1.0 h.1.1, λ a. named_by (λ dep. names_in edges dep u) deps v a))

-- an edge of one of these kinds leads to a unit exactly where an edge of one of their inverses leads back
module _ (graph : GraphMap) (inverses : HasInverses graph) where
  transposed_kinds : (deps : List DepKind) (u v : Name) → LeadsBy graph.edges deps u v → LeadsBy graph.edges (map inverse deps) v u
  transposed_kinds deps u v h = (inverse h.0, (among_mapped inverse h.0 deps h.1.0, (inverses h.0 u v).0 h.1.1))

  transposed_back : (deps : List DepKind) (u v : Name) → LeadsBy graph.edges (map inverse deps) v u → LeadsBy graph.edges deps u v
  transposed_back deps u v h =
      let k = mapped_from inverse h.0 deps h.1.0 in
      let P : DepKind → Type 0 = λ d. IsAmong u (names_in graph.edges d v) in
      (k.0, (k.1.0, (inverses k.0 u v).1 (subst P (sym k.1.1) h.1.1)))

  -- so the edges by index lead back too
  pub opposite_successors : (deps : List DepKind) (next others : ℕ → List ℕ) → IsIndexing (count_of graph.load) (name_at graph.load) name_cmp
      → AreNamedSuccessors (count_of graph.load) (name_at graph.load) (Named next) (LeadsBy graph.edges deps)
      → AreNamedSuccessors (count_of graph.load) (name_at graph.load) (Named others) (LeadsBy graph.edges (map inverse deps))
      → ((u v : ℕ) → IsAmong v (next u) → u < count_of graph.load) → ((u v : ℕ) → IsAmong v (others u) → u < count_of graph.load)
      → AreOpposite next others
  opposite_successors deps next others order successors transposed from back = opposite_from next others (λ u v. (there u v, here u v))
    where
      there : (u v : ℕ) → IsAmong v (others u) → IsAmong u (next v)
      there u v h =
          let l = back u v h in
          let m = (transposed u l).within v h in
          let e = transposed_back deps (name_at graph.load v) (name_at graph.load u) ((transposed u l).named v h) in
          index_of (count_of graph.load) (name_at graph.load) name_cmp nat_list_cmp_total order (Listed (next v)) (LeadsBy graph.edges deps (name_at graph.load v)) (successors v m) u l e

      here : (u v : ℕ) → IsAmong u (next v) → IsAmong v (others u)
      here u v h =
          let l = from v u h in
          let m = (successors v l).within u h in
          let e = transposed_kinds deps (name_at graph.load v) (name_at graph.load u) ((successors v l).named u h) in
          index_of (count_of graph.load) (name_at graph.load) name_cmp nat_list_cmp_total order (Listed (others u)) (LeadsBy graph.edges (map inverse deps) (name_at graph.load u)) (transposed u m) v l e

either_is_true : (a b : Bool) → (IsTrue a ⊎ IsTrue b) ↔ IsTrue (a || b)
either_is_true true b = (λ h. refl, λ h. inl refl)
either_is_true false b = (λ s. elim s [ inl e ↦ cc (e) | inr h ↦ h ], λ h. inr h)

-- the units that always run, and those that are said to run, by name
pub either_named : (load : LoadMap) (first second : Name → Bool) (bits others all : List Bool)
    → AreNames (count_of load) (name_at load) (IsMember bits) (λ u. IsTrue (first u))
    → AreNames (count_of load) (name_at load) (IsMember others) (λ u. IsTrue (second u))
    → ((i : ℕ) → IsMember all i ↔ (IsMember bits i ⊎ IsMember others i))
    → AreNames (count_of load) (name_at load) (IsMember all) (λ u. IsTrue (first u || second u))
either_named load first second bits others all a b members =
    names_along (count_of load) (name_at load) (λ i. IsMember bits i ⊎ IsMember others i) (IsMember all)
    (λ u. IsTrue (first u) ⊎ IsTrue (second u)) (λ u. IsTrue (first u || second u))
    (names_either (count_of load) (name_at load) (IsMember bits) (IsMember others) (λ u. IsTrue (first u)) (λ u. IsTrue (second u)) a b)
    (λ i. ((members i).1, (members i).0)) (λ u. either_is_true (first u) (second u))
