-- The edges of each unit, made of its own dependencies and of the reverse of those on it.
use Rattle.std.proofs.Common.{◌++◌, ◌+◌, ◌<◌, ◌↔◌, ◌∷◌, ◌≡◌, ◌⊎◌}
use Rattle.inverse_deps.proofs.Prelude.{[], adjacency_of_successors, All, among_from_contains, ap, AreEdgeAdjacency, AreFound, AreFoundIn, AreLinks, AreLinksOf, AreMade, AreNames, AreRowsBy, AreTransposedIn, AreWithin, arith, cases_eq, cases_lt, Contains-get_or, count_of, dependency, Dependency, dependents_are_units, DependsOn, DepKind, get_or, get_or-set_other, get_or-set_same, get_or_past, HasKind, inl, inr, inverse, inverses_are_undone, IsAmong, IsAmong-append_left, IsAmong-append_right, IsAmong-push, IsAmong-push_cases, IsEdge, IsFound, IsKindList, IsStrictlySortedBy, IsTransposed, length, length-set, List, Listed, load_indexing, LoadMap, Name, name_at, name_cmp, names_along, names_either, nat_cmp, nat_list_cmp_total, neighbors, refl, same_at, set, subst, sym, transposed_named, unit_index, ℕ, ◌∙◌}

-- what holds of each member of a list
pub all_among : {X : Type 0} (P : X → Type 0) (xs : List X) → ((x : X) → IsAmong x xs → P x) → All P xs
all_among P xs h i d l = h (get_or xs i d) (among_from_contains (get_or xs i d) xs (Contains-get_or xs i d l))

-- ---- the reverse of one list

pub same_dependency : (x y : Dependency) → x.kind ≡ y.kind → x.index ≡ y.index → x ≡ y
same_dependency x y p q = ap (λ (dep : DepKind). dependency dep x.index) p ∙ ap (dependency y.kind) q

-- these are those that were there, and the reverse of some dependencies
pub record AreTransposed (old deps : List Dependency) (from index : ℕ) (links : List Dependency) : Type 0 where
  pub just : (one : Dependency) → IsAmong one links ↔ (IsAmong one old ⊎ IsTransposed deps from index one)

pub transposed_none : (old links : List Dependency) (from index : ℕ) → links ≡ old → AreTransposed old [] from index links
transposed_none old links from index e = record { just = λ one. (λ h. inl (subst (IsAmong one) e h), λ h. back one h) }
  where
    back : (one : Dependency) → IsAmong one old ⊎ IsTransposed [] from index one → IsAmong one links
    back one (inl h) = subst (IsAmong one) (sym e) h
    back one (inr t) = absurd t.there

module _ (old deps more : List Dependency) (x : Dependency) (longer : more ≡ deps ++ x ∷ []) (from index : ℕ) (links : List Dependency) (before : AreTransposed old deps from index links) where
  still : (one : Dependency) → IsTransposed deps from index one → IsTransposed more from index one
  still one t = record {
    dep = t.dep;
    there = subst (IsAmong t.dep) (sym longer) (IsAmong-append_left t.dep deps (x ∷ []) t.there);
    on = t.on;
    kind_is = t.kind_is;
    index_is = t.index_is;
  }

  -- a reverse that was there before, or the last one
  last_or_before : (one : Dependency) → (t : IsTransposed more from index one) → IsTransposed deps from index one ⊎ (x ≡ t.dep)
  last_or_before one t = elim (IsAmong-push_cases x t.dep deps (subst (IsAmong t.dep) longer t.there)) [
    | inl a ↦ inl (record { dep = t.dep; there = a; on = t.on; kind_is = t.kind_is; index_is = t.index_is })
    | inr e ↦ inr e
  ]

  known : (one : Dependency) → IsAmong one links → IsAmong one old ⊎ IsTransposed more from index one
  known one h = elim ((before.just one).0 h) [ inl a ↦ inl a | inr t ↦ inr (still one t) ]

  module _ (new : List Dependency) (y : Dependency) (on : x.index ≡ index) (is : new ≡ links ++ y ∷ []) (kind_is : y.kind ≡ inverse x.kind) (index_is : y.index ≡ from) where
    there : (one : Dependency) → IsAmong one new → IsAmong one old ⊎ IsTransposed more from index one
    there one h = elim (IsAmong-push_cases y one links (subst (IsAmong one) is h)) [
      | inl a ↦ known one a
      | inr e ↦ inr (record {
        dep = x;
        there = subst (IsAmong x) (sym longer) (IsAmong-push x deps);
        on = on;
        kind_is = ap (λ (d : Dependency). d.kind) (sym e) ∙ kind_is;
        index_is = ap (λ (d : Dependency). d.index) (sym e) ∙ index_is;
      })
    ]

    kept : (one : Dependency) → IsAmong one links → IsAmong one new
    kept one h = subst (IsAmong one) (sym is) (IsAmong-append_left one links (y ∷ []) h)

    added : (one : Dependency) (t : IsTransposed more from index one) → IsTransposed deps from index one ⊎ (x ≡ t.dep) → IsAmong one new
    added one t (inl b) = kept one ((before.just one).1 (inr b))
    added one t (inr e) =
        let same : y ≡ one = same_dependency y one (kind_is ∙ ap (λ (d : Dependency). inverse d.kind) e ∙ sym t.kind_is) (index_is ∙ sym t.index_is) in
        subst (IsAmong one) (sym is) (IsAmong-append_right one links (y ∷ []) (inl same))

    back : (one : Dependency) → IsAmong one old ⊎ IsTransposed more from index one → IsAmong one new
    back one (inl h) = kept one ((before.just one).1 (inl h))
    back one (inr t) = added one t (last_or_before one t)

    pub transposed_more : AreTransposed old more from index new
    transposed_more = record { just = λ one. (there one, back one) }

  module _ (new : List Dependency) (off : ¬ (x.index ≡ index)) (is : new ≡ links) where
    passed : (one : Dependency) → IsAmong one old ⊎ IsTransposed more from index one → IsAmong one new
    passed one (inl h) = subst (IsAmong one) (sym is) ((before.just one).1 (inl h))
    passed one (inr t) = elim (last_or_before one t) [
      | inl b ↦ subst (IsAmong one) (sym is) ((before.just one).1 (inr b))
      | inr e ↦ absurd (off (ap (λ (d : Dependency). d.index) e ∙ t.on))
    ]

    pub transposed_passed : AreTransposed old more from index new
    transposed_passed = record { just = λ one. (λ h. known one (subst (IsAmong one) is h), passed one) }

-- ---- what is found list by list

pub found_none : (adjacency : List (List Dependency)) (own links : List Dependency) (index : ℕ) → links ≡ own → AreFound adjacency own 0 index links
found_none adjacency own links index e = record { just = λ one. (λ h. inl (subst (IsAmong one) e h), λ h. back one h) }
  where
    back : (one : Dependency) → IsAmong one own ⊎ IsFound adjacency 0 index one → IsAmong one links
    back one (inl h) = subst (IsAmong one) (sym e) h
    back one (inr f) = let none = f.below in absurd (omega arith)

module _ (adjacency : List (List Dependency)) (own : List Dependency) (i index : ℕ) (old new deps neighbors : List Dependency) (before : AreFound adjacency own i index old) (within : i < length adjacency)
    (same : deps ≡ neighbors) (here : neighbors ≡ get_or adjacency i neighbors) (added : (one : Dependency) → IsAmong one new ↔ (IsAmong one old ⊎ IsTransposed deps i index one)) where
  neighbors_is : deps ≡ get_or adjacency i []
  neighbors_is = same ∙ here ∙ same_at adjacency i neighbors [] within

  one_more : (one : Dependency) → IsAmong one own ⊎ IsFound adjacency i index one → IsAmong one own ⊎ IsFound adjacency (i + 1) index one
  one_more one (inl h) = inl h
  one_more one (inr f) = let l = f.below in inr (record { from = f.from; below = omega arith; transposed = f.transposed })

  found_there : (one : Dependency) → IsAmong one old ⊎ IsTransposed deps i index one → IsAmong one own ⊎ IsFound adjacency (i + 1) index one
  found_there one (inl h) = one_more one ((before.just one).0 h)
  found_there one (inr t) = inr (record { from = i; below = omega arith; transposed = subst (λ (ds : List Dependency). IsTransposed ds i index one) neighbors_is t })

  found_back : (one : Dependency) → IsAmong one own ⊎ IsFound adjacency (i + 1) index one → IsAmong one old ⊎ IsTransposed deps i index one
  found_back one (inl h) = inl ((before.just one).1 (inl h))
  found_back one (inr f) =
      let l = f.below in
      elim (cases_eq f.from i) [
        | inl e ↦ inr (subst (λ (ds : List Dependency). IsTransposed ds i index one) (sym neighbors_is) (subst (λ (k : ℕ). IsTransposed (get_or adjacency k []) k index one) e f.transposed))
        | inr other ↦ inl ((before.just one).1 (inr (record { from = f.from; below = omega (arith, l, other); transposed = f.transposed })))
      ]

  pub found_more : AreFound adjacency own (i + 1) index new
  found_more = record { just = λ one. (λ h. found_there one ((added one).0 h), λ h. (added one).1 (found_back one h)) }

-- ---- all lists

pub transposed_in_none : (old adjacency : List (List Dependency)) (from : ℕ) → adjacency ≡ old → AreTransposedIn old [] from adjacency
transposed_in_none old adjacency from e = record {
  units = ap length e;
  just = λ index. (transposed_none (get_or old index []) (get_or adjacency index []) from index (ap (λ (rs : List (List Dependency)). get_or rs index []) e)).just;
}

-- one more was appended to the list with its index
module _ (old adjacency new : List (List Dependency)) (deps more : List Dependency) (x y : Dependency) (from : ℕ) (longer : more ≡ deps ++ x ∷ []) (before : AreTransposedIn old deps from adjacency)
    (within : x.index < length adjacency) (is : new ≡ set adjacency x.index (get_or adjacency x.index [] ++ y ∷ [])) (kind_is : y.kind ≡ inverse x.kind) (index_is : y.index ≡ from) where
  put : (index : ℕ) → x.index ≡ index → get_or new index [] ≡ get_or adjacency index [] ++ y ∷ []
  put index on =
      subst (λ k. get_or new k [] ≡ get_or adjacency k [] ++ y ∷ []) on
      (ap (λ (rs : List (List Dependency)). get_or rs x.index []) is ∙ get_or-set_same adjacency x.index (get_or adjacency x.index [] ++ y ∷ []) [] within)

  other : (index : ℕ) → ¬ (x.index ≡ index) → get_or new index [] ≡ get_or adjacency index []
  other index off = ap (λ (rs : List (List Dependency)). get_or rs index []) is ∙ get_or-set_other adjacency x.index index (get_or adjacency x.index [] ++ y ∷ []) [] (λ e. off (sym e))

  one_list : (index : ℕ) → AreTransposed (get_or old index []) more from index (get_or new index [])
  one_list index =
      let was : AreTransposed (get_or old index []) deps from index (get_or adjacency index []) = record { just = before.just index } in
      elim (cases_eq x.index index) [
        | inl on ↦ transposed_more (get_or old index []) deps more x longer from index (get_or adjacency index []) was (get_or new index []) y on (put index on) kind_is index_is
        | inr off ↦ transposed_passed (get_or old index []) deps more x longer from index (get_or adjacency index []) was (get_or new index []) off (other index off)
      ]

  pub transposed_in_more : AreTransposedIn old more from new
  transposed_in_more = record { units = ap length is ∙ length-set adjacency x.index (get_or adjacency x.index [] ++ y ∷ []) ∙ before.units; just = λ index. (one_list index).just }

pub found_in_none : (table adjacency : List (List Dependency)) → adjacency ≡ table → AreFoundIn table 0 adjacency
found_in_none table adjacency e = record {
  units = ap length e;
  each = λ index. found_none table (get_or table index []) (get_or adjacency index []) index (ap (λ (rs : List (List Dependency)). get_or rs index []) e);
}

pub found_in_more : (table adjacency new : List (List Dependency)) (i : ℕ) (deps neighbors : List Dependency) → AreFoundIn table i adjacency → i < length table → deps ≡ neighbors → neighbors ≡ get_or table i neighbors
    → AreTransposedIn adjacency deps i new → AreFoundIn table (i + 1) new
found_in_more table adjacency new i deps neighbors before within same here transposed = record {
  units = transposed.units ∙ before.units;
  each = λ index.
      found_more table (get_or table index []) i index (get_or adjacency index []) (get_or new index []) deps neighbors (before.each index) within same here (transposed.just index);
}

-- what a row has is within
pub row_within : (rows : List (List Dependency)) (n : ℕ) → AreWithin n rows → (i : ℕ) → i < length rows → (deps row : List Dependency) → deps ≡ row → row ≡ get_or rows i row → (count : ℕ) → count ≡ n
    → All (λ (one : Dependency). one.index < count) deps
row_within rows n within i below deps row same here count count_is =
    let row_is : deps ≡ get_or rows i [] = same ∙ here ∙ same_at rows i row [] below in
    subst (λ k. All (λ (one : Dependency). one.index < k) deps) (sym count_is)
    (subst (λ (ds : List Dependency). All (λ (one : Dependency). one.index < n) ds) (sym row_is) (all_among (λ (one : Dependency). one.index < n) (get_or rows i []) (λ one h. within.each i one h)))

-- an index with something in its row is one of a row
pub has_row : (rows : List (List Dependency)) (i : ℕ) (one : Dependency) → IsAmong one (get_or rows i []) → i < length rows
has_row rows i one h = elim (cases_lt i (length rows)) [
  | inl l ↦ l
  | inr past ↦ absurd (subst (λ ds. IsAmong one ds) (get_or_past rows i [] past) h)
]

-- rows of a load are within it
pub rows_within : (load : LoadMap) (leads : DepKind → Name → Name → Type 0) (rows : List (List Dependency)) → AreRowsBy load leads rows → AreWithin (count_of load) rows
rows_within load leads rows are = record {
  each = λ i one h. (let each = are.one_each in
      let l = has_row rows i one h in
      (are.named one.kind i (omega (arith, each, l))).within one.index (record { one = one; there = h; kind_is = refl; index_is = refl }));
}

-- ---- links

-- by index
module _ (rows : List (List Dependency)) (index : ℕ) (own links : List Dependency) (found : AreFound rows own (length rows) index links) (dep : DepKind) where
  -- what the unit has, and what has it by the inverse
  abbrev pub Has : ℕ → Type 0
  Has j = HasKind own dep j ⊎ HasKind (get_or rows j []) (inverse dep) index

  pub has_link : (j : ℕ) → HasKind links dep j → Has j
  has_link j k = by ((found.just k.one).0 k.there)
    where
      by : IsAmong k.one own ⊎ IsFound rows (length rows) index k.one → Has j
      by (inl h) = inl (record { one = k.one; there = h; kind_is = k.kind_is; index_is = k.index_is })
      by (inr f) =
          let neighbors : f.from ≡ j = sym f.transposed.index_is ∙ k.index_is in
          inr (record {
            one = f.transposed.dep;
            there = subst (λ i. IsAmong f.transposed.dep (get_or rows i [])) neighbors f.transposed.there;
            kind_is = sym (inverses_are_undone f.transposed.dep.kind) ∙ ap inverse (sym f.transposed.kind_is ∙ k.kind_is);
            index_is = f.transposed.on;
          })

  pub link : (j : ℕ) → Has j → HasKind links dep j
  link j (inl k) = record { one = k.one; there = (found.just k.one).1 (inl k.there); kind_is = k.kind_is; index_is = k.index_is }
  link j (inr k) =
      let one : Dependency = record { kind = dep; index = j } in
      record {
        one = one;
        there = (found.just one).1 (inr (record {
          from = j;
          below = has_row rows j k.one k.there;
          transposed = record { dep = k.one; there = k.there; on = k.index_is; kind_is = sym (ap inverse k.kind_is ∙ inverses_are_undone dep); index_is = refl };
        }));
        kind_is = refl;
        index_is = refl;
      }

-- by name
module _ (load : LoadMap) (rows : List (List Dependency)) (are : AreRowsBy load (DependsOn load) rows) (index : ℕ) (below : index < count_of load)
    (own links : List Dependency) (own_is : own ≡ get_or rows index []) (found : AreFound rows own (length rows) index links) (dep : DepKind) where
  naming : AreNames (count_of load) (name_at load) (λ j. HasKind (get_or rows j []) (inverse dep) index) (λ v. DependsOn load (inverse dep) v (name_at load index))
  naming =
      transposed_named (count_of load) (name_at load) name_cmp nat_list_cmp_total (load_indexing load are.sorted)
      (λ i j. HasKind (get_or rows i []) (inverse dep) j) (λ i j. HasKind (get_or rows j []) (inverse dep) i) (DependsOn load (inverse dep))
      (are.named (inverse dep)) (λ i j. (λ h. h, λ h. h))
      (λ i j h. within i j h) (λ u v d. unit_index load u (dependents_are_units load.viewer.profile load.names (inverse dep) u v d).0) index below
    where
      within : (i j : ℕ) → HasKind (get_or rows j []) (inverse dep) i → j < count_of load
      within i j k = let l = has_row rows j k.one k.there in let e = are.one_each in omega (arith, l, e)

  pub linked_successors : AreNames (count_of load) (name_at load) (HasKind links dep) (IsEdge load dep (name_at load index))
  linked_successors =
      names_along (count_of load) (name_at load) (Has rows index own links found dep) (HasKind links dep) (IsEdge load dep (name_at load index)) (IsEdge load dep (name_at load index))
      (names_either (count_of load) (name_at load) (HasKind own dep) (λ j. HasKind (get_or rows j []) (inverse dep) index) (DependsOn load dep (name_at load index))
      (λ v. DependsOn load (inverse dep) v (name_at load index)) own_names naming)
      (λ j. (link rows index own links found dep j, has_link rows index own links found dep j)) (λ v. (λ h. h, λ h. h))
    where
      own_names : AreNames (count_of load) (name_at load) (HasKind own dep) (DependsOn load dep (name_at load index))
      own_names = subst (λ ds. AreNames (count_of load) (name_at load) (HasKind ds dep) (DependsOn load dep (name_at load index))) (sym own_is) (are.named dep index below)

-- all links of a unit were found
links_found : (load : LoadMap) (rows : List (List Dependency)) → AreRowsBy load (DependsOn load) rows → (index : ℕ) → index < count_of load
    → (own links : List Dependency) → own ≡ get_or rows index [] → AreFound rows own (length rows) index links → AreLinksOf load (name_at load index) links
links_found load rows are index below own links own_is found = record {
  within = all_among (λ (one : Dependency). one.index < count_of load) links (λ one h. (successors one.kind).within one.index (record { one = one; there = h; kind_is = refl; index_is = refl }));
  successors = successors;
}
  where
    successors : (dep : DepKind) → AreNames (count_of load) (name_at load) (HasKind links dep) (IsEdge load dep (name_at load index))
    successors dep = linked_successors load rows are index below own links own_is found dep

-- all links of a load were found
pub adjacency_found : (load : LoadMap) (rows adjacency : List (List Dependency)) → AreRowsBy load (DependsOn load) rows → AreFoundIn rows (length rows) adjacency → AreLinks load adjacency
adjacency_found load rows adjacency are found = record {
  sorted = are.sorted;
  one_each = found.units ∙ are.one_each;
  each = λ index below. links_found load rows are index below (get_or rows index []) (get_or adjacency index []) refl (found.each index);
}

-- ---- the links of a kind

none_ascend : IsStrictlySortedBy nat_cmp []
unfolding IsStrictlySortedBy
none_ascend = tt

-- they are the edges of the kind
pub edge_adjacency : (load : LoadMap) (links : List (List Dependency)) → AreLinks load links → (dep : DepKind) (adjacency : List (List ℕ)) (count : ℕ) → count ≡ length links
    → AreMade (IsKindList links dep) count adjacency → AreEdgeAdjacency load dep adjacency
edge_adjacency load links are dep adjacency count e made = record {
  successors = successors;
  within = adjacency_of_successors (count_of load) adjacency counts (λ u l v a. (successors u l).within v a);
  ascending = ascending;
}
  where
    counts : length adjacency ≡ count_of load
    counts = made.count ∙ e ∙ are.one_each

    successors : (i : ℕ) → i < count_of load → AreNames (count_of load) (name_at load) (Listed (neighbors adjacency i)) (IsEdge load dep (name_at load i))
    successors i l =
        let exact = (made.each i [] (omega (arith, l, counts, made.count))).exact in
        names_along (count_of load) (name_at load) (HasKind (get_or links i []) dep) (Listed (neighbors adjacency i)) (IsEdge load dep (name_at load i)) (IsEdge load dep (name_at load i))
        ((are.each i l).successors dep) (λ j. ((exact j).1, (exact j).0)) (λ v. (λ h. h, λ h. h))

    ascending : (u : ℕ) → IsStrictlySortedBy nat_cmp (neighbors adjacency u)
    ascending u = elim (cases_lt u (length adjacency)) [
      | inl l ↦ (made.each u [] (omega (arith, l, made.count))).ascending
      | inr past ↦ subst (λ (is : List ℕ). IsStrictlySortedBy nat_cmp is) (sym (get_or_past adjacency u [] past)) none_ascend
    ]
