-- Laws of edges: each edge has its inverse, edges join units, and a load has one list of its edges.
use Rattle.std.proofs.Common.{◌↔◌, ◌∷◌, ◌≡◌, ◌⊎◌}
use Rattle.inverse_deps.specs.Prelude.{[], All, All-head, All-tail, ap, dependencies_are_mains, DependencyList, DepKind, HostViewMap, inl, inr, inverse, inverses_are_undone, IsDependency, IsLoad, keys_of, List, LoadMap, map, Name, name_cmp, nat_list_cmp_total, one_ascending_list, refl, subst, sym, ◌∙◌}
use Rattle.inverse_deps.specs.{Dependencies.{IsByPath, IsByTarget}, Edges.{AreEdges, AreEdgesFrom, AreEdgesOf, DependsOn, EdgeMap, HaveSameEdges, IsEdge, IsUnitIn, names_in}, UnitLaws.{dependents_are_units}}

-- Each edge has its inverse.
abbrev pub InversesAreOne : Type 0
InversesAreOne = (load : LoadMap) (dep : DepKind) (u v : Name) → IsEdge load dep u v ↔ IsEdge load (inverse dep) v u

-- Edges join units.
abbrev pub EdgesJoinUnits : Type 0
EdgesJoinUnits = (load : LoadMap) (dep : DepKind) (u v : Name) → IsEdge load dep u v → IsUnitIn load u × IsUnitIn load v

-- A load has one list of edges of a kind from a name.
abbrev pub OneListOfEdges : Type 0
OneListOfEdges = (load : LoadMap) (a b : EdgeMap) → AreEdges load a → AreEdges load b → (dep : DepKind) (u : Name) → names_in a dep u ≡ names_in b dep u

-- And one list for each kind of the edges from a name.
abbrev pub OneListByKind : Type 0
OneListByKind = (load : LoadMap) (u : Name) (a b : List DependencyList) → AreEdgesOf load u a → AreEdgesOf load u b → a ≡ b

-- The two units make a dependency of this kind on each other: by a mount on the way to a path, or by what a target pulls.
abbrev pub IsOfTwo : LoadMap → DepKind → Name → Name → Type 0
IsOfTwo load dep u v = IsByPath load.viewer.profile load.names dep u v ⊎ IsByTarget load.viewer.profile load.names dep u v

-- And there an edge leads from one unit to another exactly where one names the other in the store, by the kind or by
-- its inverse, or where the two make the dependency.
abbrev pub EdgesComeFromNames : Type 0
EdgesComeFromNames = (s : HostViewMap) (extra : List Name) (load : LoadMap) (dep : DepKind) (u v : Name) → IsLoad s extra load
    → IsEdge load dep u v
    ↔ (IsUnitIn load u × IsUnitIn load v × ((IsDependency s u dep v ⊎ IsDependency s v (inverse dep) u) ⊎ (IsOfTwo load dep u v ⊎ IsOfTwo load (inverse dep) v u)))

turn : (load : LoadMap) (dep : DepKind) (u v : Name) → IsEdge load dep u v → IsEdge load (inverse dep) v u
turn load dep u v (inl d) = inr (subst (λ k. DependsOn load k u v) (sym (inverses_are_undone dep)) d)
turn load dep u v (inr d) = inl d

turn_back : (load : LoadMap) (dep : DepKind) (u v : Name) → IsEdge load (inverse dep) v u → IsEdge load dep u v
turn_back load dep u v (inl d) = inr d
turn_back load dep u v (inr d) = inl (subst (λ k. DependsOn load k u v) (inverses_are_undone dep) d)

pub inverses_are_one : InversesAreOne
inverses_are_one load dep u v = (turn load dep u v, turn_back load dep u v)

pub edges_join_units : EdgesJoinUnits
edges_join_units load dep u v (inl d) = dependents_are_units load.viewer.profile load.names dep u v d
edges_join_units load dep u v (inr d) = let ends = dependents_are_units load.viewer.profile load.names (inverse dep) v u d in (ends.1, ends.0)

one_list_from : (load : LoadMap) (dep : DepKind) (u : Name) (a b : List Name) → AreEdgesFrom load dep u a
    → AreEdgesFrom load dep u b → a ≡ b
one_list_from load dep u a b p q =
    one_ascending_list name_cmp nat_list_cmp_total a b p.ascending q.ascending
    (λ v. (λ h. (q.exact v).1 ((p.exact v).0 h), λ h. (p.exact v).1 ((q.exact v).0 h)))

pub one_list_of_edges : OneListOfEdges
one_list_of_edges load a b p q dep u = one_list_from load dep u (names_in a dep u) (names_in b dep u) (p.lists dep u) (q.lists dep u)

-- ---- lists for each kind

dependency_list : DepKind → List Name → DependencyList
dependency_list dep names = record { kind = dep; names = names }

module _ (load : LoadMap) (u : Name) where
  abbrev Holds : DependencyList → Type 0
  Holds list = AreEdgesFrom load list.kind u list.names

  one_each : (x y : DependencyList) → x.kind ≡ y.kind → Holds x → Holds y → x ≡ y
  unfolding dependency_list
  one_each x y same p q =
      ap (λ dep. dependency_list dep x.names) same
      ∙ ap (dependency_list y.kind) (one_list_from load y.kind u x.names y.names (subst (λ dep. AreEdgesFrom load dep u x.names) same p) q)

  one_by_kind : (a b : List DependencyList) → map (λ list. list.kind) a ≡ map (λ list. list.kind) b → All Holds a → All Holds b → a ≡ b
  one_by_kind [] [] same p q = refl
  one_by_kind [] (y ∷ b) same p q = cc
  one_by_kind (x ∷ a) [] same p q = cc
  one_by_kind (x ∷ a) (y ∷ b) same p q =
      let first : x.kind ≡ y.kind = cc in
      let rest : map (λ (list : DependencyList). list.kind) a ≡ map (λ (list : DependencyList). list.kind) b = cc in
      ap (λ (list : DependencyList). list ∷ a) (one_each x y first (All-head Holds x a p) (All-head Holds y b q))
      ∙ ap (λ (lists : List DependencyList). y ∷ lists) (one_by_kind a b rest (All-tail Holds x a p) (All-tail Holds y b q))

pub one_list_by_kind : OneListByKind
one_list_by_kind load u a b p q = one_by_kind load u a b (p.kinds_are ∙ sym q.kinds_are) p.each q.each

module _ (s : HostViewMap) (extra : List Name) (load : LoadMap) (l : IsLoad s extra load) where
  abbrev Named : DepKind → Name → Name → Type 0
  Named dep u v = (IsDependency s u dep v ⊎ IsDependency s v (inverse dep) u) ⊎ (IsOfTwo load dep u v ⊎ IsOfTwo load (inverse dep) v u)

  dependency : (dep : DepKind) (u v : Name) → DependsOn load dep u v → IsDependency s u dep v ⊎ IsOfTwo load dep u v
  dependency dep u v (inl (inl d)) = inl ((dependencies_are_mains s extra load u d.unit dep v l d.unit_is).0 d.listed)
  dependency dep u v (inl (inr d)) = inr (inl d)
  dependency dep u v (inr d) = inr (inr d)

  names : (dep : DepKind) (u v : Name) → IsUnitIn load u → IsUnitIn load v → IsDependency s u dep v → DependsOn load dep u v
  names dep u v a b d = inl (inl (record { unit = a.0; unit_is = a.1; listed = (dependencies_are_mains s extra load u a.0 dep v l a.1).1 d; other = b }))

  of_two : (dep : DepKind) (u v : Name) → IsOfTwo load dep u v → DependsOn load dep u v
  of_two dep u v (inl d) = inl (inr d)
  of_two dep u v (inr d) = inr d

  one_names : (dep : DepKind) (u v : Name) → IsEdge load dep u v → Named dep u v
  one_names dep u v (inl d) = elim (dependency dep u v d) [ inl n ↦ inl (inl n) | inr t ↦ inr (inl t) ]
  one_names dep u v (inr d) = elim (dependency (inverse dep) v u d) [ inl n ↦ inl (inr n) | inr t ↦ inr (inr t) ]

  edge_of_names : (dep : DepKind) (u v : Name) → IsUnitIn load u → IsUnitIn load v → Named dep u v → IsEdge load dep u v
  edge_of_names dep u v a b (inl (inl d)) = inl (names dep u v a b d)
  edge_of_names dep u v a b (inl (inr d)) = inr (names (inverse dep) v u b a d)
  edge_of_names dep u v a b (inr (inl d)) = inl (of_two dep u v d)
  edge_of_names dep u v a b (inr (inr d)) = inr (of_two (inverse dep) v u d)

pub edges_come_from_names : EdgesComeFromNames
edges_come_from_names s extra load dep u v l = (
  λ e. (let ends = edges_join_units load dep u v e in (ends.0, ends.1, one_names s extra load l dep u v e)),
  λ h. edge_of_names s extra load l dep u v h.0 h.1 h.2,
)

-- ---- loads with the same edges

goes_over : (a b : LoadMap) → keys_of a.names ≡ keys_of b.names
    → ((dep : DepKind) (u v : Name) → IsEdge a dep u v ↔ IsEdge b dep u v) → (edges : EdgeMap) → AreEdges a edges
    → AreEdges b edges
goes_over a b names same edges e = record {
  names = e.names ∙ names;
  in_order = e.in_order;
  lists = λ dep u. record {
    ascending = (e.lists dep u).ascending;
    exact = λ v. (λ h. (same dep u v).0 (((e.lists dep u).exact v).0 h), λ h. ((e.lists dep u).exact v).1 ((same dep u v).1 h));
  };
}

-- if two loads have the same names and each edge of one is an edge of the other, all edges of one are all edges of the
-- other
pub edges_go_over : (a b : LoadMap) → keys_of a.names ≡ keys_of b.names
    → ((dep : DepKind) (u v : Name) → IsEdge a dep u v ↔ IsEdge b dep u v) → HaveSameEdges a b
edges_go_over a b names same edges = (goes_over a b names same edges, goes_over b a (sym names) (λ dep u v. ((same dep u v).1, (same dep u v).0)) edges)
