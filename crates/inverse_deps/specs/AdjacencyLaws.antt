-- What units name is what rows of dependencies have; and by files loads with the same names and the same rows have the same
-- edges.
-- Source: this project's own.
use Rattle.std.{proofs.Common.{◌<◌, ◌↔◌, ◌∷◌, ◌≡◌}, specs.FinMap.Entries.{is_sorted}}
use Rattle.inverse_deps.specs.Prelude.{[], ap, AreDependenciesOf, AreDependencyAdjacency, AreNamedSuccessors, AreNames, arith, Dependency, DepKind, Files, get_or, HaveSameAdjacency, inl, inr, inverse, IsListed, IsTrue, length, List, lists_in, LoadedUnit, LoadMap, Name, name_cmp, NameLoad, none-some, none_there, OfAlias, OfUnit, refl, Some, subst, suc, sym, unit_in, unit_part, zero, ℕ, ◌∙◌}
use Rattle.inverse_deps.specs.{Dependencies.{NamesUnit}, Edges.{DependsOn, IsEdge, IsUnitIn}, IndexLaws.{counts_alike, named_alike, unit_at, unit_index}, Indices.{count_of, name_at}, Rows.{AreRowsBy}, Tables.{HasKind}, UnitLaws.{by_files_alone}}

-- ---- the dependencies of a name

module _ (load : LoadMap) (sorted : IsTrue (is_sorted name_cmp load.names)) (dep : DepKind) (index : ℕ)
    (p : Name × NameLoad) (below : index < count_of load) where
  part : unit_in load (name_at load index) ≡ unit_part (get_or load.names index p).1
  part = unit_at load sorted index p below

  there : (one : NameLoad) → (get_or load.names index p).1 ≡ one → (v : Name) → IsListed (lists_in one) dep v
      → IsUnitIn load v → NamesUnit load.names dep (name_at load index) v
  there (OfUnit u) e v l w = record { unit = u; unit_is = part ∙ ap unit_part e; listed = l; other = w }
  there (OfAlias m) e v l w = none_there l.list l.there

  back : (one : NameLoad) → (get_or load.names index p).1 ≡ one → (v : Name)
      → NamesUnit load.names dep (name_at load index) v → IsListed (lists_in one) dep v
  back (OfUnit u) e v d =
      let f : Some d.unit ≡ Some u = sym d.unit_is ∙ part ∙ ap unit_part e in
      let same : d.unit ≡ u = cc (f) in
      let Q : LoadedUnit → Type 0 = λ w. IsListed w.deps dep v in
      subst Q same d.listed
  back (OfAlias m) e v d = absurd (none-some _ (sym (part ∙ ap unit_part e) ∙ d.unit_is))

  -- a name's dependencies of the kind are what it depends on
  pub kinds_named : (deps : List Dependency) → AreDependenciesOf load.names (lists_in (get_or load.names index p).1) deps
      → AreNames (count_of load) (name_at load) (HasKind deps dep) (NamesUnit load.names dep (name_at load index))
  kinds_named deps a = record { within = within; named = named; indexed = indexed }
    where
      within : (i : ℕ) → HasKind deps dep i → i < count_of load
      within i k =
          let P : ℕ → Type 0 = λ j. j < count_of load in
          subst P k.index_is (a.each k.one k.there).below

      named : (i : ℕ) → HasKind deps dep i → NamesUnit load.names dep (name_at load index) (name_at load i)
      named i k =
          let d = a.each k.one k.there in
          let K : DepKind → Type 0 = λ e. IsListed (lists_in (get_or load.names index p).1) e (name_at load k.one.index) in
          let L : ℕ → Type 0 = λ j. IsListed (lists_in (get_or load.names index p).1) dep (name_at load j) in
          let U : ℕ → Type 0 = λ j. IsUnitIn load (name_at load j) in
          there (get_or load.names index p).1 refl (name_at load i) (subst L k.index_is (subst K k.kind_is d.listed)) (subst U k.index_is d.unit)

      indexed : (v : Name) → NamesUnit load.names dep (name_at load index) v → (i : ℕ) × (HasKind deps dep i × (name_at load i ≡ v))
      indexed v d =
          let r = a.all dep v (back (get_or load.names index p).1 refl v d) in
          (r.one.index, (record { one = r.one; there = r.there; kind_is = r.kind_is; index_is = refl }, r.named))

-- the element at a position, whatever the default is
pub same_at : {X : Type 0} (xs : List X) (i : ℕ) (d e : X) → i < length xs → get_or xs i d ≡ get_or xs i e
same_at [] i d e l = absurd (omega arith)
same_at (x ∷ xs) zero d e l = refl
same_at (x ∷ xs) (suc i) d e l = same_at xs i d e (omega arith)

-- the same for the adjacency lists of a load
pub adjacency_named : (load : LoadMap) → IsTrue (is_sorted name_cmp load.names)
    → (dep : DepKind) (adjacency : List (List Dependency)) → AreDependencyAdjacency load.names adjacency
    → AreNamedSuccessors (count_of load) (name_at load) (λ i j. HasKind (get_or adjacency i []) dep j) (NamesUnit load.names dep)
adjacency_named load sorted dep adjacency a index l = let p : Name × NameLoad = ([], OfAlias []) in kinds_named load sorted dep index p l (get_or adjacency index []) (a.rows index p l)

-- the rows of a load are what its units name
pub own_rows : (load : LoadMap) → IsTrue (is_sorted name_cmp load.names) → (rows : List (List Dependency))
    → AreDependencyAdjacency load.names rows → AreRowsBy load (NamesUnit load.names) rows
own_rows load sorted rows a = record { sorted = sorted; one_each = a.one_each; named = λ dep. adjacency_named load sorted dep rows a }

-- ---- edges

module _ (a b : LoadMap) (same : HaveSameAdjacency a b) where
  name_is : (i : ℕ) → name_at a i ≡ name_at b i
  name_is = named_alike a b same.names_are

  named_too : (dep : DepKind) (u v : Name) → NamesUnit a.names dep u v → NamesUnit b.names dep u v
  named_too dep u v d =
      let n = unit_index a u (d.unit, d.unit_is) in
      let r = (adjacency_named a same.sorted dep same.table same.rows n.0 n.1.0).indexed v (subst (λ (w : Name). NamesUnit a.names dep w v) (sym n.1.1) d) in
      let lt = n.1.0 in
      let counts = counts_alike a b same.names_are in
      let below : n.0 < count_of b = omega (arith, lt, counts) in
      let there = (adjacency_named b same.sorted_too dep same.table same.rows_too n.0 below).named r.0 r.1.0 in
      subst (λ (w : Name). NamesUnit b.names dep w v) (sym (name_is n.0) ∙ n.1.1)
      (subst (λ (w : Name). NamesUnit b.names dep (name_at b n.0) w) (sym (name_is r.0) ∙ r.1.1) there)

  module _ (by_files : a.viewer.profile ≡ Files) (by_files_too : b.viewer.profile ≡ Files) where
    depends : (dep : DepKind) (u v : Name) → DependsOn a dep u v → DependsOn b dep u v
    depends dep u v d = (by_files_alone b.viewer.profile b.names dep u v by_files_too).1 (named_too dep u v ((by_files_alone a.viewer.profile a.names dep u v by_files).0 d))

    edge : (dep : DepKind) (u v : Name) → IsEdge a dep u v → IsEdge b dep u v
    edge dep u v (inl d) = inl (depends dep u v d)
    edge dep u v (inr d) = inr (depends (inverse dep) v u d)

transposed_round : (a b : LoadMap) → HaveSameAdjacency a b → HaveSameAdjacency b a
transposed_round a b same = record {
  names_are = sym same.names_are;
  sorted = same.sorted_too;
  sorted_too = same.sorted;
  table = same.table;
  rows = same.rows_too;
  rows_too = same.rows;
}

-- of loads by files
pub edges_alike : (a b : LoadMap) → HaveSameAdjacency a b → a.viewer.profile ≡ Files → b.viewer.profile ≡ Files
    → (dep : DepKind) (u v : Name) → IsEdge a dep u v ↔ IsEdge b dep u v
edges_alike a b same f g dep u v = (edge a b same f g dep u v, edge b a (transposed_round a b same) g f dep u v)
