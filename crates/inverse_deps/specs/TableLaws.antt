-- Tables of edges: the edges by name that they make, and loads that have the same table.
use Rattle.std.{proofs.Common.{◌+◌, ◌<◌, ◌↔◌, ◌∷◌, ◌≡◌}, specs.FinMap.Entries.{is_sorted}}
use Rattle.inverse_deps.specs.Prelude.{[], After, among_mapped, ap, AreAdjacencyOf, AreNames, arith, ascending_named, asked_for, Before, BindsTo, BoundBy, ConflictedBy, Conflicts, ConsistsOf, DepKind, Files, find, find_place, get_or, HaveSameAdjacency, InSlice, IsAmong, IsStrictlySortedBy, IsTrue, keys_length, keys_of, kinds, length, List, Listed, LoadMap, map, mapped_from, members_named, Name, name_cmp, name_cmp-IsAntisymmetric, nat_cmp, nat_list_cmp_total, neighbors, neighbors-below, None, none-some, OnFailure, OnFailureOf, Option, PartOf, place_of_found, PropagatesReloadTo, refl, ReloadPropagatedFrom, RequiredBy, Requires, Requisite, RequisiteOf, SliceOf, Some, sorted_by_keys, subst, suc, sym, TriggeredBy, Triggers, UpheldBy, Upholds, WantedBy, Wants, zero, ℕ, ◌∙◌}
use Rattle.inverse_deps.specs.{AdjacencyLaws.{edges_alike}, AskedLaws.{same_edges}, EdgeAdjacency.{adjacency_at, AreAdjacencyByKinds, edge_map, edges_from, list_from, listed_name, lists_from}, EdgeLaws.{edges_join_units}, Edges.{AreEdges, AreEdgesFrom, EdgeMap, IsEdge, IsUnitIn, list_at, names_in, place}, IndexLaws.{counts_alike, load_indexing, named_alike, unit_index}, Indices.{count_of, name_at}, Tables.{AreEdgeAdjacency, AreKept, AreListsFrom, IsEdgeTable}}

-- by files loads with the same dependencies by index have the same table
abbrev pub AdjacencyMakesTheTable : Type 0
AdjacencyMakesTheTable =
    (a b : LoadMap) (tables : List (List (List ℕ))) → HaveSameAdjacency a b → a.viewer.profile ≡ Files → b.viewer.profile ≡ Files → IsEdgeTable a tables → IsEdgeTable b tables

-- which names were asked for changes no table
abbrev pub AskingChangesNoTable : Type 0
AskingChangesNoTable = (load : LoadMap) (extra : List Name) (tables : List (List (List ℕ))) → IsEdgeTable load tables → IsEdgeTable (asked_for extra load) tables

-- ---- kinds

-- a kind and its position among all kinds
pub record StandsAt (dep : DepKind) : Type 0 where
  pub there : get_or kinds (place dep) Before ≡ dep
  pub below : place dep < length kinds

pub stands_at : (dep : DepKind) → StandsAt dep
stands_at Before = record { there = refl; below = omega arith }
stands_at After = record { there = refl; below = omega arith }
stands_at Wants = record { there = refl; below = omega arith }
stands_at WantedBy = record { there = refl; below = omega arith }
stands_at Requires = record { there = refl; below = omega arith }
stands_at RequiredBy = record { there = refl; below = omega arith }
stands_at Requisite = record { there = refl; below = omega arith }
stands_at RequisiteOf = record { there = refl; below = omega arith }
stands_at BindsTo = record { there = refl; below = omega arith }
stands_at BoundBy = record { there = refl; below = omega arith }
stands_at PartOf = record { there = refl; below = omega arith }
stands_at ConsistsOf = record { there = refl; below = omega arith }
stands_at Conflicts = record { there = refl; below = omega arith }
stands_at ConflictedBy = record { there = refl; below = omega arith }
stands_at OnFailure = record { there = refl; below = omega arith }
stands_at OnFailureOf = record { there = refl; below = omega arith }
stands_at PropagatesReloadTo = record { there = refl; below = omega arith }
stands_at ReloadPropagatedFrom = record { there = refl; below = omega arith }
stands_at Upholds = record { there = refl; below = omega arith }
stands_at UpheldBy = record { there = refl; below = omega arith }
stands_at Triggers = record { there = refl; below = omega arith }
stands_at TriggeredBy = record { there = refl; below = omega arith }
stands_at InSlice = record { there = refl; below = omega arith }
stands_at SliceOf = record { there = refl; below = omega arith }

-- the element at a position of a mapped list
pub get_mapped : {X Y : Type 0} (f : X → Y) (xs : List X) (k : ℕ) (x : X) (y : Y) → k < length xs
    → get_or (map f xs) k y ≡ f (get_or xs k x)
get_mapped f [] k x y l = absurd (omega arith)
get_mapped f (z ∷ zs) zero x y l = refl
get_mapped f (z ∷ zs) (suc k) x y l = get_mapped f zs k x y (omega arith)

-- ---- one list

-- the names of an ascending adjacency list are the edges that it has
edges_of_neighbors : (load : LoadMap) → IsTrue (is_sorted name_cmp load.names)
    → (dep : DepKind) (u : Name) (is : List ℕ) → IsStrictlySortedBy nat_cmp is
    → AreNames (count_of load) (name_at load) (Listed is) (IsEdge load dep u) → AreEdgesFrom load dep u (map (name_at load) is)
edges_of_neighbors load ordered dep u is ascend a = record {
  ascending = ascending_named (count_of load) (name_at load) name_cmp nat_list_cmp_total (load_indexing load ordered) is a.within ascend;
  exact = members_named (count_of load) (name_at load) name_cmp nat_list_cmp_total (load_indexing load ordered) (Listed is) (IsEdge load dep u) a is (λ i. (λ h. h, λ h. h));
}

-- ---- the edges by name

edges_length : (names : List Name) (tables : List (List (List ℕ))) (index : ℕ) (others : List Name)
    → length (edges_from names tables index others) ≡ length others
edges_length names tables index [] = refl
edges_length names tables index (name ∷ others) = ap suc (edges_length names tables (suc index) others)

edges_keys : (names : List Name) (tables : List (List (List ℕ))) (index : ℕ) (others : List Name)
    → keys_of (edges_from names tables index others) ≡ others
edges_keys names tables index [] = refl
edges_keys names tables index (name ∷ others) = ap (λ (ks : List Name). name ∷ ks) (edges_keys names tables (suc index) others)

edges_each : (names : List Name) (tables : List (List (List ℕ))) (index : ℕ) (others : List Name) (k at : ℕ)
    (d : Name × List (List Name)) → k < length others → index + k ≡ at
    → (get_or (edges_from names tables index others) k d).1 ≡ lists_from names tables at
edges_each names tables index [] k at d l e = absurd (omega arith)
edges_each names tables index (name ∷ others) zero at d l e = ap (lists_from names tables) (omega (arith, e))
edges_each names tables index (name ∷ others) (suc k) at d l e = edges_each names tables (suc index) others k at d (omega arith) (omega (arith, e))

none_ascend : IsStrictlySortedBy name_cmp []
unfolding IsStrictlySortedBy
none_ascend = tt

-- no edges lead from a name without a unit
pub no_edges : (load : LoadMap) (dep : DepKind) (u : Name) → ¬ IsUnitIn load u → AreEdgesFrom load dep u []
no_edges load dep u none = record { ascending = none_ascend; exact = λ v. (λ h. absurd h, λ e. absurd (none (edges_join_units load dep u v e).0)) }

-- the edges from an index, by name
pub table_list : (load : LoadMap) (tables : List (List (List ℕ))) → IsEdgeTable load tables → (dep : DepKind) (i : ℕ) → i < count_of load
    → AreEdgesFrom load dep (name_at load i) (list_from (keys_of load.names) tables i dep)
table_list load tables are dep i l =
    let r = are.each dep in
    edges_of_neighbors load are.sorted dep (name_at load i) (neighbors (adjacency_at tables dep) i) (r.ascending i) (r.successors i l)

-- a table makes all edges of its load
module _ (load : LoadMap) (tables : List (List (List ℕ))) (are : IsEdgeTable load tables) where
  abbrev edges : EdgeMap
  edges = edge_map (keys_of load.names) tables

  keys : keys_of edges ≡ keys_of load.names
  keys = edges_keys (keys_of load.names) tables 0 (keys_of load.names)

  sorted : IsTrue (is_sorted name_cmp edges)
  sorted = subst (λ b. IsTrue b) (sym (sorted_by_keys name_cmp edges load.names keys)) are.sorted

  count : length edges ≡ count_of load
  count = sym (keys_length edges) ∙ ap length keys ∙ keys_length load.names

  each : (k : ℕ) (d : Name × List (List Name)) → k < length edges → (get_or edges k d).1 ≡ lists_from (keys_of load.names) tables k
  each k d l = edges_each (keys_of load.names) tables 0 (keys_of load.names) k k d (let e = edges_length (keys_of load.names) tables 0 (keys_of load.names) in omega (arith, e, l)) (omega arith)

  name_is : (i : ℕ) → get_or (keys_of edges) i [] ≡ name_at load i
  name_is i = ap (λ ks. get_or ks i []) keys

  kind_names : (dep : DepKind) (i : ℕ) → get_or (lists_from (keys_of load.names) tables i) (place dep) []
      ≡ map (name_at load) (neighbors (adjacency_at tables dep) i)
  kind_names dep i =
      let at = stands_at dep in
      get_mapped (list_from (keys_of load.names) tables i) kinds (place dep) Before [] at.below
      ∙ ap (list_from (keys_of load.names) tables i) at.there

  list_there : (k : ℕ) (d : Name × List (List Name)) → k < length edges → AreListsFrom load (name_at load k) (get_or edges k d).1
  list_there k d l dep =
      let P : List Name → Type 0 = λ ns. AreEdgesFrom load dep (name_at load k) ns in
      subst P (sym (ap (λ ls. get_or ls (place dep) []) (each k d l) ∙ kind_names dep k)) (table_list load tables are dep k (omega (arith, l, count)))

  found_edges : (dep : DepKind) (u : Name) (lists : List (List Name)) → find name_cmp u edges ≡ Some lists
      → AreEdgesFrom load dep u (get_or lists (place dep) [])
  found_edges dep u lists f =
      let r = place_of_found name_cmp name_cmp-IsAntisymmetric u edges lists [] f in
      let d : Name × List (List Name) = (u, lists) in
      let here : find name_cmp u edges ≡ Some (get_or edges r.0 d).1 = ap (λ k. find name_cmp k edges) (sym r.1.1) ∙ find_place name_cmp nat_list_cmp_total edges r.0 [] d sorted r.1.0 in
      let both : Some (get_or edges r.0 d).1 ≡ Some lists = sym here ∙ f in
      let same : (get_or edges r.0 d).1 ≡ lists = cc (both) in
      let P : List (List Name) → Type 0 = λ ls. AreEdgesFrom load dep u (get_or ls (place dep) []) in
      let Q : Name → Type 0 = λ w. AreEdgesFrom load dep w (get_or (get_or edges r.0 d).1 (place dep) []) in
      subst P same (subst Q (sym (name_is r.0) ∙ r.1.1) (list_there r.0 d r.1.0 dep))

  no_unit : (u : Name) → find name_cmp u edges ≡ None → ¬ IsUnitIn load u
  no_unit u f h =
      let r = unit_index load u h in
      let d : Name × List (List Name) = (u, []) in
      let below : r.0 < length edges = omega (arith, r.1.0, count) in
      none-some _ (sym f ∙ ap (λ k. find name_cmp k edges) (sym (name_is r.0 ∙ r.1.1)) ∙ find_place name_cmp nat_list_cmp_total edges r.0 [] d sorted below)

  edges_there : (dep : DepKind) (u : Name) (o : Option (List (List Name))) → find name_cmp u edges ≡ o
      → AreEdgesFrom load dep u (list_at dep o)
  edges_there dep u None f = no_edges load dep u (no_unit u f)
  edges_there dep u (Some lists) f = found_edges dep u lists f

  -- they are all its edges
  pub all_edges : AreEdges load edges
  all_edges = record { names = keys; in_order = sorted; lists = λ dep u. edges_there dep u (find name_cmp u edges) refl }

  adjacency_there : (dep : DepKind) (i : ℕ) → i < length edges
      → map (listed_name edges) (neighbors (adjacency_at tables dep) i) ≡ names_in edges dep (listed_name edges i)
  adjacency_there dep i l =
      let d : Name × List (List Name) = ([], []) in
      ap (λ ks. map (λ n. get_or ks n []) (neighbors (adjacency_at tables dep) i)) keys
      ∙ sym (kind_names dep i) ∙ ap (λ ls. get_or ls (place dep) []) (sym (each i d l))
      ∙ ap (list_at dep) (sym (find_place name_cmp nat_list_cmp_total edges i [] d sorted l))

  -- and the adjacency lists are the lists, by index
  pub all_kept : AreKept edges tables
  all_kept = record {
    sorted = sorted;
    edges_are = ap (λ (ks : List Name). edge_map ks tables) (sym keys);
    adjacency = record {
      all = are.all;
      each = λ dep. (let r = are.each dep in
          let P : ℕ → Type 0 = λ n. AreAdjacencyOf n (adjacency_at tables dep) in
          record { within = subst P (sym count) r.within; ascending = r.ascending; exact = adjacency_there dep });
    };
  }

-- edges and the same by index are a table
pub table_of_edges : (load : LoadMap) (edges : EdgeMap) (tables : List (List (List ℕ))) → AreEdges load edges
    → AreAdjacencyByKinds edges tables → IsEdgeTable load tables
table_of_edges load edges tables are by = record {
  sorted = subst (λ b. IsTrue b) (sorted_by_keys name_cmp edges load.names are.names) are.in_order;
  all = by.all;
  each = λ dep. record {
    successors = λ i l. successors dep i l;
    within = within dep;
    ascending = (by.each dep).ascending;
  };
}
  where
    counts : length edges ≡ count_of load
    counts = sym (keys_length edges) ∙ ap length are.names ∙ keys_length load.names

    within : (dep : DepKind) → AreAdjacencyOf (count_of load) (adjacency_at tables dep)
    within dep = subst (λ n. AreAdjacencyOf n (adjacency_at tables dep)) counts (by.each dep).within

    exact : (dep : DepKind) (i : ℕ) → i < count_of load
        → map (name_at load) (neighbors (adjacency_at tables dep) i) ≡ names_in edges dep (name_at load i)
    exact dep i l =
        ap (λ ks. map (λ n. get_or ks n []) (neighbors (adjacency_at tables dep) i)) (sym are.names) ∙ (by.each dep).exact i (omega (arith, l, counts))
        ∙ ap (λ ks. names_in edges dep (get_or ks i [])) are.names

    successors : (dep : DepKind) (i : ℕ) → i < count_of load
        → AreNames (count_of load) (name_at load) (Listed (neighbors (adjacency_at tables dep) i))
        (IsEdge load dep (name_at load i))
    successors dep i l =
        let lists = are.lists dep (name_at load i) in
        let next = neighbors (adjacency_at tables dep) i in
        record {
          within = λ j h. neighbors-below (count_of load) (adjacency_at tables dep) i j (within dep).within h;
          named = λ j h. (lists.exact (name_at load j)).0 (subst (λ (ns : List Name). IsAmong (name_at load j) ns) (exact dep i l) (among_mapped (name_at load) j next h));
          indexed = λ v e. mapped_from (name_at load) v next (subst (λ (ns : List Name). IsAmong v ns) (sym (exact dep i l)) ((lists.exact v).1 e));
        }

-- ---- loads with the same table

module _ (a b : LoadMap) (names : keys_of a.names ≡ keys_of b.names)
    (same : (dep : DepKind) (u v : Name) → IsEdge a dep u v ↔ IsEdge b dep u v) where
  names_over : (P : ℕ → Type 0) (Q Q' : Name → Type 0) → ((v : Name) → Q v ↔ Q' v)
      → AreNames (count_of a) (name_at a) P Q → AreNames (count_of b) (name_at b) P Q'
  names_over P Q Q' q n = record {
    within = λ i h. subst (λ c. i < c) (counts_alike a b names) (n.within i h);
    named = λ i h. subst Q' (named_alike a b names i) ((q (name_at a i)).0 (n.named i h));
    indexed = λ v h. (let r = n.indexed v ((q v).1 h) in (r.0, (r.1.0, sym (named_alike a b names r.0) ∙ r.1.1)));
  }

  adjacency_over : (dep : DepKind) (adjacency : List (List ℕ)) → AreEdgeAdjacency a dep adjacency → AreEdgeAdjacency b dep adjacency
  adjacency_over dep adjacency e = record {
    successors = λ i l.
        subst (λ (u : Name). AreNames (count_of b) (name_at b) (Listed (neighbors adjacency i)) (IsEdge b dep u)) (named_alike a b names i)
        (names_over (Listed (neighbors adjacency i)) (IsEdge a dep (name_at a i)) (IsEdge b dep (name_at a i)) (same dep (name_at a i))
        (e.successors i (let c = counts_alike a b names in omega (arith, l, c))));
    within = subst (λ n. AreAdjacencyOf n adjacency) (counts_alike a b names) e.within;
    ascending = e.ascending;
  }

  -- if two loads have the same names and edges, the table of one is that of the other
  table_goes_over : (tables : List (List (List ℕ))) → IsEdgeTable a tables → IsEdgeTable b tables
  table_goes_over tables t = record {
    sorted = subst (λ x. IsTrue x) (sorted_by_keys name_cmp a.names b.names names) t.sorted;
    all = t.all;
    each = λ dep. adjacency_over dep (adjacency_at tables dep) (t.each dep);
  }

pub adjacency_makes_the_table : AdjacencyMakesTheTable
adjacency_makes_the_table a b tables same f g t = table_goes_over a b same.names_are (edges_alike a b same f g) tables t

pub asking_changes_no_table : AskingChangesNoTable
asking_changes_no_table load extra tables t = table_goes_over load (asked_for extra load) refl (same_edges load extra) tables t
