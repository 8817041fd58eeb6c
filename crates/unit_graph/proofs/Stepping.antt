-- The graph's adjacency lists, and the edges that they give.
use Rattle.std.proofs.Common.{◌++◌, ◌<◌, ◌∷◌, ◌≡◌, ◌⊎◌}
use Rattle.unit_graph.proofs.Prelude.{[], All, among_from_contains, among_mapped, ap, AreAdjacencyBy, AreAdjacencyOf, AreEdges, AreNamedSuccessors, AreNames, arith, Bool, chains_named, closure_named, Contains-get_or, count_of, DepKind, distances_named, EdgeMap, edges_join_units, get_or, GraphMap, HasInverses, inl, inr, inverse, inverses_are_one, IsAmong, IsAmong-append_left, IsAmong-append_right, IsAmong-push_cases, IsClosure, IsDistances, IsIndexFor, IsIndexing, IsTable, IsTrue, keys_length, LeadsBy, LeadToUnits, length, List, Listed, listed_either, load_indexing, LoadMap, map, mapped_from, Name, name_at, name_cmp, Named, names_along, names_in, nat_cmp, nat_list_cmp_total, neighbors, reached_named, refl, ResolvesTo, Some, sorted_by_keys, subst, successors_from, sym, ℕ, ◌∙◌}

-- the adjacency lists of edges are those of their load
pub table_of_adjacency : (load : LoadMap) (edges : EdgeMap) (dep : DepKind) (adjacency : List (List ℕ)) → AreEdges load edges → AreAdjacencyBy edges dep adjacency → IsTable load edges dep adjacency
table_of_adjacency load edges dep adjacency are r =
    let count : length edges ≡ count_of load = sym (keys_length edges) ∙ ap length are.names ∙ keys_length load.names in
    let P : ℕ → Type 0 = λ n. AreAdjacencyOf n adjacency in
    record {
      within = subst P count r.within;
      ascending = r.ascending;
      exact = λ i l. ap (λ ks. map (λ n. get_or ks n []) (neighbors adjacency i)) (sym are.names) ∙ r.exact i (omega (arith, l, count)) ∙ ap (λ ks. names_in edges dep (get_or ks i [])) are.names;
    }

-- each edge has its inverse
pub has_inverses : (graph : GraphMap) → AreEdges graph.load graph.edges → HasInverses graph
has_inverses graph are dep u v = (
  λ h. ((are.lists (inverse dep) v).exact u).1 ((inverses_are_one graph.load dep u v).0 (((are.lists dep u).exact v).0 h)),
  λ h. ((are.lists dep u).exact v).1 ((inverses_are_one graph.load dep u v).1 (((are.lists (inverse dep) v).exact u).0 h)),
)

-- edges lead to units
pub lead_to_units : (graph : GraphMap) → AreEdges graph.load graph.edges → LeadToUnits graph
lead_to_units graph are dep u v h = (edges_join_units graph.load dep u v (((are.lists dep u).exact v).0 h)).1

-- the indices of a graph's names follow the names' order
pub graph_indexing : (load graph : LoadMap) → load ≡ graph → (edges : EdgeMap) → AreEdges load edges → IsIndexing (count_of graph) (name_at graph) name_cmp
graph_indexing load graph same edges are =
    let P : LoadMap → Type 0 = λ m. IsIndexing (count_of m) (name_at m) name_cmp in
    let Q : Bool → Type 0 = λ b. IsTrue b in
    subst P same (load_indexing load (subst Q (sorted_by_keys name_cmp edges load.names are.names) are.in_order))

-- no kinds have no edges
pub no_kinds : (load : LoadMap) (edges : EdgeMap) (successors : List (List (List ℕ))) → successors ≡ [] → AreNamedSuccessors (count_of load) (name_at load) (Named (successors_from successors)) (LeadsBy edges [])
no_kinds load edges successors e =
    let P : List (List (List ℕ)) → Type 0 = λ ks. AreNamedSuccessors (count_of load) (name_at load) (Named (successors_from ks)) (LeadsBy edges []) in
    subst P (sym e) (λ i l. record { within = λ j h. absurd h; named = λ j h. absurd h; indexed = λ u h. absurd h.1.0 })

-- the edges of one adjacency list
pub table_neighbors : (load : LoadMap) (edges : EdgeMap) (dep : DepKind) (adjacency : List (List ℕ)) → IsTable load edges dep adjacency → (i : ℕ) → i < count_of load → (is : List ℕ) → is ≡ neighbors adjacency i
    → ((v : ℕ) → IsAmong v (neighbors adjacency i) → v < count_of load) → AreNames (count_of load) (name_at load) (Listed is) (λ v. IsAmong v (names_in edges dep (name_at load i)))
table_neighbors load edges dep adjacency t i l is e below =
    let P : List ℕ → Type 0 = λ js. AreNames (count_of load) (name_at load) (Listed js) (λ v. IsAmong v (names_in edges dep (name_at load i))) in
    subst P (sym e) (record {
      within = below;
      named = λ j h. (let Q : List Name → Type 0 = λ ns. IsAmong (name_at load j) ns in subst Q (t.exact i l) (among_mapped (name_at load) j (neighbors adjacency i) h));
      indexed = λ v h. (let Q : List Name → Type 0 = λ ns. IsAmong v ns in mapped_from (name_at load) v (neighbors adjacency i) (subst Q (sym (t.exact i l)) h));
    })

-- one more kind
module _ (load : LoadMap) (edges : EdgeMap) (u : Name) (old new : List DepKind) (x : DepKind) (more : new ≡ old ++ x ∷ []) (is js ks : List ℕ) where
  pub kind_more : AreNames (count_of load) (name_at load) (Listed is) (LeadsBy edges old u)
      → AreNames (count_of load) (name_at load) (Listed js) (λ v. IsAmong v (names_in edges x u)) → ks ≡ is ++ js
      → AreNames (count_of load) (name_at load) (Listed ks) (LeadsBy edges new u)
  kind_more a b e =
      names_along (count_of load) (name_at load) (Listed ks) (Listed ks) (λ v. LeadsBy edges old u v ⊎ IsAmong v (names_in edges x u)) (LeadsBy edges new u)
      (listed_either (count_of load) (name_at load) is js ks (LeadsBy edges old u) (λ v. IsAmong v (names_in edges x u)) a b e)
      (λ j. (λ h. h, λ h. h)) (λ v. (there v, back v))
    where
      there : (v : Name) → LeadsBy edges old u v ⊎ IsAmong v (names_in edges x u) → LeadsBy edges new u v
      there v (inl h) = let P : List DepKind → Type 0 = λ ds. IsAmong h.0 ds in (h.0, (subst P (sym more) (IsAmong-append_left h.0 old (x ∷ []) h.1.0), h.1.1))
      there v (inr h) = let P : List DepKind → Type 0 = λ ds. IsAmong x ds in (x, (subst P (sym more) (IsAmong-append_right x old (x ∷ []) (inl refl)), h))

      back : (v : Name) → LeadsBy edges new u v → LeadsBy edges old u v ⊎ IsAmong v (names_in edges x u)
      back v h =
          let P : List DepKind → Type 0 = λ ds. IsAmong h.0 ds in
          elim (IsAmong-push_cases x h.0 old (subst P more h.1.0)) [
            | inl a ↦ inl (h.0, (a, h.1.1))
            | inr s ↦ (let Q : DepKind → Type 0 = λ d. IsAmong v (names_in edges d u) in inr (subst Q (sym s) h.1.1))
          ]

-- one kind alone
pub only_kind : (load : LoadMap) (edges : EdgeMap) (u : Name) (x : DepKind) (is : List ℕ) → AreNames (count_of load) (name_at load) (Listed is) (λ v. IsAmong v (names_in edges x u))
    → AreNames (count_of load) (name_at load) (Listed is) (LeadsBy edges (x ∷ []) u)
only_kind load edges u x is a = record {
  within = a.within;
  named = λ i h. (x, (inl refl, a.named i h));
  indexed = λ v h. a.indexed v (elim h.1.0 [ inl e ↦ (let P : DepKind → Type 0 = λ d. IsAmong v (names_in edges d u) in subst P (sym e) h.1.1) | inr none ↦ absurd none ]);
}

-- a name resolves to one unit
pub one_main : (load : LoadMap) (name a b : Name) → ResolvesTo load name a → ResolvesTo load name b → a ≡ b
one_main load name a b p q = let e : Some a ≡ Some b = sym p.main_is ∙ q.main_is in cc (e)

-- the index of the unit that a name resolves to, as a source
pub one_source : (load : LoadMap) (name main : Name) (i : ℕ) → ResolvesTo load name main → IsIndexFor load name i
    → AreNames (count_of load) (name_at load) (Listed (i ∷ [])) (Listed (main ∷ []))
one_source load name main i s n = record {
  within = λ j h. only (λ k. k < count_of load) j h n.index_is.below;
  named = λ j h. inl (only (λ k. main ≡ name_at load k) j h (one_main load name main n.main s n.stands ∙ sym n.index_is.named));
  indexed = λ v h. (i, (inl refl, n.index_is.named ∙ one_main load name n.main main n.stands s ∙ only_name v h));
}
  where
    only : (P : ℕ → Type 0) (j : ℕ) → IsAmong j (i ∷ []) → P i → P j
    only P j (inl e) p = subst P e p
    only P j (inr h) p = absurd h

    only_name : (v : Name) → IsAmong v (main ∷ []) → main ≡ v
    only_name v (inl e) = e
    only_name v (inr h) = absurd h

-- what holds of all members of a list holds at each position
all_from : {X : Type 0} (P : X → Type 0) (xs : List X) → ((x : X) → IsAmong x xs → P x) → All P xs
all_from P xs h = λ k d l. h (get_or xs k d) (among_from_contains _ xs (Contains-get_or xs k d l))

-- what is reached by index from the unit that a name resolves to
module _ (load : LoadMap) (order : IsIndexing (count_of load) (name_at load) name_cmp) (edges : EdgeMap) (deps : List DepKind) (next : ℕ → List ℕ)
    (successors : AreNamedSuccessors (count_of load) (name_at load) (Named next) (LeadsBy edges deps)) (from : Name) (i : ℕ) (n : IsIndexFor load from i) where
  pub reach_below : (is : List ℕ) → IsClosure (Listed (i ∷ [])) (Named next) nat_cmp is → All (λ j. j < count_of load) is
  reach_below is c =
      all_from (λ j. j < count_of load) is
      (λ j h. (reached_named (count_of load) (name_at load) (Listed (i ∷ [])) (Listed (n.main ∷ [])) (Named next) (LeadsBy edges deps)
      (one_source load from n.main i n.stands n) successors).within j ((c.members j).0 h))

  pub reach_named : (is : List ℕ) → IsClosure (Listed (i ∷ [])) (Named next) nat_cmp is → (main : Name) → ResolvesTo load from main
      → IsClosure (Listed (main ∷ [])) (LeadsBy edges deps) name_cmp (map (name_at load) is)
  reach_named is c main s =
      closure_named (count_of load) (name_at load) name_cmp nat_list_cmp_total order (Listed (i ∷ [])) (Listed (main ∷ [])) (Named next) (LeadsBy edges deps)
      (one_source load from main i s n) successors is c

  pub depths_below : (ps : List (ℕ × ℕ)) → IsDistances (Listed (i ∷ [])) (Named next) nat_cmp ps → All (λ p. p.1 < count_of load) ps
  depths_below ps d =
      all_from (λ p. p.1 < count_of load) ps
      (λ p h. (chains_named (count_of load) (name_at load) (Listed (i ∷ [])) (Listed (n.main ∷ [])) (Named next) (LeadsBy edges deps)
      (one_source load from n.main i n.stands n) successors p.0).within p.1 ((d.members p.0 p.1).0 h).chain)

  pub depths_named : (ps : List (ℕ × ℕ)) → IsDistances (Listed (i ∷ [])) (Named next) nat_cmp ps → (main : Name) → ResolvesTo load from main
      → IsDistances (Listed (main ∷ [])) (LeadsBy edges deps) name_cmp (map (λ p. (p.0, name_at load p.1)) ps)
  depths_named ps d main s =
      distances_named (count_of load) (name_at load) name_cmp nat_list_cmp_total order (Listed (i ∷ [])) (Listed (main ∷ [])) (Named next) (LeadsBy edges deps)
      (one_source load from main i s n) successors ps d

-- a graph is its load and its edges
pub same_graph : (g h : GraphMap) → g.load ≡ h.load → g.edges ≡ h.edges → g ≡ h
same_graph g h e f =
    ap (λ (l : LoadMap). let x : GraphMap = record { load = l; edges = g.edges } in x) e ∙ ap (λ (es : EdgeMap). let x : GraphMap = record { load = h.load; edges = es } in x) f
