-- The indices of main names, and the dependencies by them.
use Rattle.std.{proofs.Common.{if◌then◌else◌, ◌++◌, ◌<◌, ◌∷◌, ◌≡◌, ◌≤◌}, specs.FinMap.Entries.{is_sorted}}
use Rattle.parallel_load.proofs.Prelude.{[], alias_in, All, All-cons, All-nil, among_filter_map, among_find, among_flat_map, among_from_contains, among_map, ap, AreDependenciesOf, AreDependencyAdjacency, AreIndexed, AreNormalized, arith, at_within, Bool, Contains, contains_from_among, Dependency, dependency_of, DependencyList, DepKind, Err, false, find, find_among, find_at, find_gap, flat_map_among, get_or, HasIndex, HasMainUnit, IfOk, inl, inr, is_same, IsAmong, IsAt, IsDependencyOf, IsGap, IsIndex, IsKept, IsListed, IsMainIndex, IsNormalizedLoad, IsNormalizedRow, IsTrue, IsUnitAmong, IsWhole, key_at, key_at_place, key_found, keys_length, keys_of, length, List, list_indices, list_normalized, lists_in, load_indices, load_normalized, LoadedUnit, LoadMap, main_name, map, map_among, Name, name_cmp, name_indices, name_lists, name_loads, name_of, NamedWords, NameLoad, names_in_lists, names_stay, nat_cmp-IsAntisymmetric, nat_list_cmp_total, None, none-some, none_there, Normalized, normalized_name, OfAlias, OfUnit, Ok, Option, option_and_then, other_index, other_indices, refl, Result, same_Some, slice_cmp-IsAntisymmetric, Some, sorted_by_keys, subst, suc, sym, true, unit_normalized, unit_part, unless_unit, Viewer, zero, ℕ, ◌∙◌}

-- ---- names with the indices of their main names

pub indexed_keys : (found ps : List (Name × NameLoad)) (ms : List (Name × ℕ)) → AreIndexed found ps ms → keys_of ms ≡ keys_of ps
indexed_keys found [] [] h = refl
indexed_keys found [] (m ∷ ms) h = absurd h
indexed_keys found (p ∷ ps) [] h = absurd h
indexed_keys found (p ∷ ps) (m ∷ ms) h = ap (λ (k : Name). k ∷ keys_of ms) h.0 ∙ ap (λ (ks : List Name). p.0 ∷ ks) (indexed_keys found ps ms h.2)

-- one more
pub indexed_more : (found ps : List (Name × NameLoad)) (ms : List (Name × ℕ)) (p : Name × NameLoad) (m : Name × ℕ) → AreIndexed found ps ms → m.0 ≡ p.0 → IsMainIndex found p m.1
    → AreIndexed found (ps ++ p ∷ []) (ms ++ m ∷ [])
indexed_more found [] [] p m h e n = (e, n, tt)
indexed_more found [] (x ∷ ms) p m h e n = absurd h
indexed_more found (q ∷ ps) [] p m h e n = absurd h
indexed_more found (q ∷ ps) (x ∷ ms) p m h e n = (h.0, h.1, indexed_more found ps ms p m h.2 e n)

indices_within : (found ps : List (Name × NameLoad)) (ms : List (Name × ℕ)) (n : ℕ) → n ≡ length found → AreIndexed found ps ms → All (λ (m : Name × ℕ). m.1 < n) ms
indices_within found [] [] n e h = All-nil (λ (m : Name × ℕ). m.1 < n)
indices_within found [] (m ∷ ms) n e h = absurd h
indices_within found (p ∷ ps) [] n e h = absurd h
indices_within found (p ∷ ps) (m ∷ ms) n e h =
    let below = h.1.below in
    All-cons (λ (x : Name × ℕ). x.1 < n) m ms (omega (arith, e, below)) (indices_within found ps ms n e h.2)

-- they are in order, and each index is that of a name
pub is_index : (found : List (Name × NameLoad)) (ms : List (Name × ℕ)) → IsTrue (is_sorted name_cmp found) → AreIndexed found found ms → IsIndex ms
is_index found ms s h =
    let keys = indexed_keys found found ms h in
    let count : length ms ≡ length found = sym (keys_length ms) ∙ ap length keys ∙ keys_length found in
    let B : Bool → Type 0 = λ b. IsTrue b in
    record { sorted = subst B (sym (sorted_by_keys name_cmp ms found keys)) s; within = indices_within found found ms (length ms) count h }

-- what is at an index
among_indexed : (found ps : List (Name × NameLoad)) (ms : List (Name × ℕ)) (n : Name) (i : ℕ) → AreIndexed found ps ms → IsAmong {X = Name × ℕ} (n, i) ms
    → (one : NameLoad) × (IsAmong {X = Name × NameLoad} (n, one) ps × IsMainIndex found (n, one) i)
among_indexed found [] [] n i h a = absurd a
among_indexed found [] (m ∷ ms) n i h a = absurd h
among_indexed found (p ∷ ps) [] n i h a = absurd h
among_indexed found (p ∷ ps) (m ∷ ms) n i h (inl e) =
    let key : p.0 ≡ n = sym h.0 ∙ ap (λ (x : Name × ℕ). x.0) e in
    let same : p ≡ (n, p.1) = ap (λ (x : Name). let q : Name × NameLoad = (x, p.1) in q) key in
    let P : ℕ → Type 0 = λ j. IsMainIndex found p j in
    let Q : Name × NameLoad → Type 0 = λ q. IsMainIndex found q i in
    (p.1, (inl same, subst Q same (subst P (ap (λ (x : Name × ℕ). x.1) e) h.1)))
among_indexed found (p ∷ ps) (m ∷ ms) n i h (inr a) =
    let r = among_indexed found ps ms n i h.2 a in
    (r.0, (inr r.1.0, r.1.1))

-- ---- what was found

-- where a name's main name is
pub record HasPlace (found : List (Name × NameLoad)) (ms : List (Name × ℕ)) (n main : Name) : Type 0 where
  pub index : ℕ
  pub found_is : find name_cmp n ms ≡ Some index
  pub below : index < length found
  pub named : name_of found index ≡ main
  pub unit : LoadedUnit
  pub there : IsAmong {X = Name × NameLoad} (main, OfUnit unit) found

module _ (found : List (Name × NameLoad)) (sorted : IsTrue (is_sorted name_cmp found)) (whole : IsWhole found) (ms : List (Name × ℕ)) (indexed : AreIndexed found found ms) where
  keys : keys_of ms ≡ keys_of found
  keys = indexed_keys found found ms indexed

  ms_sorted : IsTrue (is_sorted name_cmp ms)
  ms_sorted = (is_index found ms sorted indexed).sorted

  -- a name that was found is there with an index
  index_there : (n : Name) (one : NameLoad) → IsAmong {X = Name × NameLoad} (n, one) found → (i : ℕ) × (find name_cmp n ms ≡ Some i)
  index_there n one a =
      let P : List Name → Type 0 = λ ks. IsAmong n ks in
      let r = among_map (λ (m : Name × ℕ). m.0) ms n (subst P (sym keys) (map_among (λ (p : Name × NameLoad). p.0) found (n, one) a)) in
      let Q : Name → Type 0 = λ x. IsAmong {X = Name × ℕ} (x, r.source.1) ms in
      (r.source.1, among_find name_cmp nat_list_cmp_total n r.source.1 ms ms_sorted (subst Q r.makes r.there))

  one_there : (n : Name) (x y : NameLoad) → IsAmong {X = Name × NameLoad} (n, x) found → IsAmong {X = Name × NameLoad} (n, y) found → x ≡ y
  one_there n x y a b =
      same_Some _ _ (sym (among_find name_cmp nat_list_cmp_total n x found sorted a) ∙ among_find name_cmp nat_list_cmp_total n y found sorted b)

  main_there : (n : Name) (one : NameLoad) → IsAmong {X = Name × NameLoad} (n, one) found → (unit : LoadedUnit) × IsAmong {X = Name × NameLoad} (main_name (n, one), OfUnit unit) found
  main_there n (OfUnit u) a = (u, a)
  main_there n (OfAlias m) a = whole.mains n m a

  pub place_of : (n : Name) (one : NameLoad) → IsAmong {X = Name × NameLoad} (n, one) found → HasPlace found ms n (main_name (n, one))
  place_of n one a =
      let f = index_there n one a in
      let r = among_indexed found found ms n f.0 indexed (find_among name_cmp (slice_cmp-IsAntisymmetric nat_cmp-IsAntisymmetric) n ms f.0 f.1) in
      let P : NameLoad → Type 0 = λ x. IsMainIndex found (n, x) f.0 in
      let is : IsMainIndex found (n, one) f.0 = subst P (one_there n r.0 one r.1.0 a) r.1.1 in
      let main = main_there n one a in
      record {
        index = f.0;
        found_is = f.1;
        below = is.below;
        named = is.named (map_among (λ (p : Name × NameLoad). p.0) found (main_name (n, one), OfUnit main.0) main.1);
        unit = main.0;
        there = main.1;
      }

  -- a name in a list of a unit that was found has a place
  pub named_place : (n : Name) (u : LoadedUnit) (m : Name) → IsAmong {X = Name × NameLoad} (n, OfUnit u) found → IsAmong m (names_in_lists u.deps) → (main : Name) × HasPlace found ms m main
  named_place n u m a h =
      let r = whole.named (n, OfUnit u) m a h in
      (main_name (m, r.0), place_of m r.0 r.1)

-- ---- the names with what they resolve to

pub normalized_keys : (ms : List (Name × ℕ)) (found : List (Name × NameLoad)) → keys_of (name_loads (map (normalized_name ms) found)) ≡ keys_of found
normalized_keys ms [] = refl
normalized_keys ms (p ∷ found) = ap (λ (ks : List Name). p.0 ∷ ks) (normalized_keys ms found)

load_place : (ms : List (Name × ℕ)) (found : List (Name × NameLoad)) (i : ℕ) (p : Name × NameLoad) → i < length found
    → (get_or (name_loads (map (normalized_name ms) found)) i p).1 ≡ load_normalized ms (get_or found i p).1
load_place ms [] i p l = absurd (omega arith)
load_place ms (q ∷ found) zero p l = refl
load_place ms (q ∷ found) (suc i) p l = load_place ms found i p (omega arith)

indices_place : (ms : List (Name × ℕ)) (found : List (Name × NameLoad)) (i : ℕ) (p : Name × NameLoad) → i < length found
    → get_or (name_indices (map (normalized_name ms) found)) i [] ≡ load_indices ms (get_or found i p).1
indices_place ms [] i p l = absurd (omega arith)
indices_place ms (q ∷ found) zero p l = refl
indices_place ms (q ∷ found) (suc i) p l = indices_place ms found i p (omega arith)

place_among : {X : Type 0} (xs : List X) (i : ℕ) (d : X) → i < length xs → IsAmong (get_or xs i d) xs
place_among [] i d l = absurd (omega arith)
place_among (x ∷ xs) zero d l = inl refl
place_among (x ∷ xs) (suc i) d l = inr (place_among xs i d (omega arith))

loads_among : (ms : List (Name × ℕ)) (found : List (Name × NameLoad)) (n : Name) (one : NameLoad) → IsAmong {X = Name × NameLoad} (n, one) found
    → IsAmong {X = Name × NameLoad} (n, load_normalized ms one) (name_loads (map (normalized_name ms) found))
loads_among ms found n one a =
    map_among (λ (x : Normalized). let q : Name × NameLoad = (x.name, x.load) in q) (map (normalized_name ms) found) (normalized_name ms (n, one))
    (map_among (normalized_name ms) found (n, one) a)

loads_length : (ms : List (Name × ℕ)) (found : List (Name × NameLoad)) → length (name_loads (map (normalized_name ms) found)) ≡ length found
loads_length ms [] = refl
loads_length ms (p ∷ found) = ap suc (loads_length ms found)

indices_length : (ms : List (Name × ℕ)) (found : List (Name × NameLoad)) → length (name_indices (map (normalized_name ms) found)) ≡ length found
indices_length ms [] = refl
indices_length ms (p ∷ found) = ap suc (indices_length ms found)

-- an index that isn't the unit's stays
stays : (b : Bool) (index i : ℕ) → (if b then None else Some index) ≡ Some i → index ≡ i
stays true index i h = absurd (none-some _ h)
stays false index i h = same_Some _ _ h

module _ (found : List (Name × NameLoad)) (sorted : IsTrue (is_sorted name_cmp found)) (whole : IsWhole found) (ms : List (Name × ℕ)) (indexed : AreIndexed found found ms) where
  abbrev names : List (Name × NameLoad)
  names = name_loads (map (normalized_name ms) found)

  pub names_sorted : IsTrue (is_sorted name_cmp names)
  names_sorted = let B : Bool → Type 0 = λ b. IsTrue b in subst B (sym (sorted_by_keys name_cmp names found (normalized_keys ms found))) sorted

  key_is_name : (i : ℕ) → key_at ms i ≡ name_of names i
  key_is_name i = ap (λ (ks : List Name). get_or ks i []) (indexed_keys found found ms indexed ∙ sym (normalized_keys ms found))

  unit_among : (n : Name) (u : LoadedUnit) → IsAmong {X = Name × NameLoad} (n, OfUnit u) found → IsUnitAmong names n
  unit_among n u a = (
    unit_normalized ms u,
    ap (option_and_then unit_part) (among_find name_cmp nat_list_cmp_total n (OfUnit (unit_normalized ms u)) names names_sorted (loads_among ms found n (OfUnit u) a)),
  )

  module _ (n : Name) (u : LoadedUnit) (here : IsAmong {X = Name × NameLoad} (n, OfUnit u) found) where
    abbrev lists : List DependencyList
    lists = map (list_normalized ms u.name) u.deps

    -- an index of a list is that of a unit that the list has by its main name
    index_of_list : (list : DependencyList) (i : ℕ) → IsAmong list u.deps → IsAmong i (other_indices ms u.name list.names) → IsDependencyOf names lists (dependency_of list.kind i)
    index_of_list list i a h =
        let r = among_filter_map (other_index ms u.name) list.names i h in
        let p = named_place found sorted whole ms indexed n u r.source here (flat_map_among (λ (l : DependencyList). l.names) u.deps list r.source a r.there) in
        let place = p.1 in
        let index : place.index ≡ i =
        stays (is_same (key_at ms place.index) u.name) place.index i (sym (ap (option_and_then (unless_unit ms u.name)) place.found_is) ∙ r.makes) in
        let named : name_of names i ≡ p.0 =
        ap (λ (ks : List Name). get_or ks i []) (normalized_keys ms found) ∙ ap (name_of found) (sym index) ∙ place.named in
        let U : Name → Type 0 = λ x. IsUnitAmong names x in
        let K : Name → Type 0 = λ x. IsAmong x (map (key_at ms) (other_indices ms u.name list.names)) in
        let count = loads_length ms found in
        let below = place.below in
        record {
          below = omega (arith, count, below, index);
          unit = subst U (sym named) (unit_among p.0 place.unit place.there);
          listed = record {
            list = list_normalized ms u.name list;
            there = contains_from_among (list_normalized ms u.name list) lists (map_among (list_normalized ms u.name) u.deps list a);
            kind_is = refl;
            has_name = (names_stay (map (key_at ms) (other_indices ms u.name list.names)) (name_of names i)).1
                (contains_from_among (name_of names i) (map (key_at ms) (other_indices ms u.name list.names))
                (subst K (key_is_name i) (map_among (key_at ms) (other_indices ms u.name list.names) i h)));
          };
        }

    each_index : (one : Dependency) → IsAmong one (load_indices ms (OfUnit u)) → IsDependencyOf names lists one
    each_index one h =
        let r = among_flat_map (list_indices ms u.name) u.deps one h in
        let q = among_map (dependency_of r.source.kind) (other_indices ms u.name r.source.names) one r.makes in
        let P : Dependency → Type 0 = λ d. IsDependencyOf names lists d in
        subst P q.makes (index_of_list r.source q.source r.there q.there)

    -- and what the lists have, has an index
    each_listed : (dep : DepKind) (v : Name) → IsListed lists dep v → HasIndex names (load_indices ms (OfUnit u)) dep v
    each_listed dep v l =
        let r = among_map (list_normalized ms u.name) u.deps l.list (among_from_contains l.list lists l.there) in
        let M : DependencyList → Type 0 = λ x. Contains x.names v in
        let has = (names_stay (map (key_at ms) (other_indices ms u.name r.source.names)) v).0 (subst M (sym r.makes) l.has_name) in
        let q = among_map (key_at ms) (other_indices ms u.name r.source.names) v (among_from_contains v (map (key_at ms) (other_indices ms u.name r.source.names)) has) in
        record {
          one = dependency_of r.source.kind q.source;
          there = flat_map_among (list_indices ms u.name) u.deps r.source (dependency_of r.source.kind q.source) r.there
              (map_among (dependency_of r.source.kind) (other_indices ms u.name r.source.names) q.source q.there);
          kind_is = ap (λ (x : DependencyList). x.kind) r.makes ∙ l.kind_is;
          named = sym (key_is_name q.source) ∙ q.makes;
        }

  dependencies_of : (n : Name) (one : NameLoad) → IsAmong {X = Name × NameLoad} (n, one) found → AreDependenciesOf names (lists_in (load_normalized ms one)) (load_indices ms one)
  dependencies_of n (OfUnit u) a = record { each = each_index n u a; all = each_listed n u a }
  dependencies_of n (OfAlias m) a = record { each = λ d h. absurd h; all = λ dep v l. none_there l.list l.there }

  -- so the indices are those of the dependencies
  pub rows_are : AreDependencyAdjacency names (name_indices (map (normalized_name ms) found))
  rows_are = record {
    one_each = indices_length ms found ∙ sym (loads_length ms found);
    rows = λ i p l. (let count = loads_length ms found in
        let below : i < length found = omega (arith, count, l) in
        let at : Name × NameLoad = get_or found i p in
        let P : NameLoad → Type 0 = λ one. AreDependenciesOf names (lists_in one) (get_or (name_indices (map (normalized_name ms) found)) i []) in
        let Q : List Dependency → Type 0 = λ ds. AreDependenciesOf names (lists_in (load_normalized ms at.1)) ds in
        subst P (sym (load_place ms found i p below)) (subst Q (sym (indices_place ms found i p below)) (dependencies_of at.0 at.1 (place_among found i p below))));
  }

-- ---- the indices stay those of main names

main_stays : (n : Name) (ms : List (Name × ℕ)) (one : NameLoad) → main_name (n, load_normalized ms one) ≡ main_name (n, one)
main_stays n ms (OfUnit u) = refl
main_stays n ms (OfAlias m) = refl

module _ (ms : List (Name × ℕ)) (found : List (Name × NameLoad)) where
  index_stays : (p : Name × NameLoad) (index : ℕ) → IsMainIndex found p index → IsMainIndex (name_loads (map (normalized_name ms) found)) (p.0, load_normalized ms p.1) index
  index_stays p index h =
      let P : ℕ → Type 0 = λ n. index < n in
      let Q : Name → List Name → Type 0 = λ n ks. IsAmong n ks in
      let main = main_stays p.0 ms p.1 in
      record {
        below = subst P (sym (loads_length ms found)) h.below;
        named = λ a. ap (λ (ks : List Name). get_or ks index []) (normalized_keys ms found)
            ∙ h.named (subst (λ (n : Name). Q n (keys_of found)) main (subst (Q (main_name (p.0, load_normalized ms p.1))) (normalized_keys ms found) a)) ∙ sym main;
      }

  indices_stay : (ps : List (Name × NameLoad)) (ks : List (Name × ℕ)) → AreIndexed found ps ks → AreIndexed (name_loads (map (normalized_name ms) found)) (name_loads (map (normalized_name ms) ps)) ks
  indices_stay [] [] h = tt
  indices_stay [] (k ∷ ks) h = absurd h
  indices_stay (p ∷ ps) [] h = absurd h
  indices_stay (p ∷ ps) (k ∷ ks) h = (h.0, index_stays p k.1 h.1, indices_stay ps ks h.2)

-- replacing the names of one entry makes a row of this table
pub row_normalized : (ms : List (Name × ℕ)) (n : Name) (one : NameLoad) → IsNormalizedRow ms (normalized_name ms (n, one))
row_normalized ms n (OfUnit u) = refl
row_normalized ms n (OfAlias m) = refl

rows_normalized : (ms : List (Name × ℕ)) (found : List (Name × NameLoad)) → All (IsNormalizedRow ms) (map (normalized_name ms) found)
rows_normalized ms [] = All-nil (IsNormalizedRow ms)
rows_normalized ms (p ∷ found) = All-cons (IsNormalizedRow ms) (normalized_name ms p) (map (normalized_name ms) found) (row_normalized ms p.0 p.1) (rows_normalized ms found)

-- the main name of each name was found, and so it is in what is made of what was found
module _ (ms : List (Name × ℕ)) (found : List (Name × NameLoad)) (whole : IsWhole found) where
  main_unit : (n : Name) (one : NameLoad) → IsAmong {X = Name × NameLoad} (n, one) found → HasMainUnit (name_loads (map (normalized_name ms) found)) (n, load_normalized ms one)
  main_unit n (OfUnit u) a = record { main_is = whole.own n u a; unit = unit_normalized ms u; there = loads_among ms found n (OfUnit u) a }
  main_unit n (OfAlias of) a = let m = whole.mains n of a in record { main_is = refl; unit = unit_normalized ms m.0; there = loads_among ms found of (OfUnit m.0) m.1 }

  main_units : (some : List (Name × NameLoad)) → ((p : Name × NameLoad) → IsAmong p some → IsAmong p found)
      → All (HasMainUnit (name_loads (map (normalized_name ms) found))) (name_loads (map (normalized_name ms) some))
  main_units [] within = All-nil (HasMainUnit (name_loads (map (normalized_name ms) found)))
  main_units (p ∷ some) within =
      All-cons (HasMainUnit (name_loads (map (normalized_name ms) found))) (p.0, load_normalized ms p.1) (name_loads (map (normalized_name ms) some)) (main_unit p.0 p.1 (within p (inl refl)))
      (main_units some (λ q h. within q (inr h)))

-- the rows made of what was found have all that a load needs
pub record IsReady (found : List (Name × NameLoad)) (ms : List (Name × ℕ)) (all : List Normalized) : Type 0 where
  pub kept : IsKept (name_loads all) (name_lists all) (name_indices all) ms
  pub normalized : AreNormalized found (name_loads all) (name_lists all)

pub is_ready : (found pairs : List (Name × NameLoad)) (ms : List (Name × ℕ)) (all : List Normalized) → IsTrue (is_sorted name_cmp found) → IsWhole found → length found ≤ 4096 → AreIndexed found found ms
    → pairs ≡ found → all ≡ map (normalized_name ms) pairs → IsReady found ms all
is_ready found pairs ms all sorted whole few indexed e f =
    let P : List Normalized → Type 0 = λ xs. IsReady found ms xs in
    subst P (sym (f ∙ ap (map (normalized_name ms)) e)) (record {
      kept = record {
        all = map (normalized_name ms) found;
        are_rows = record {
          names_are = refl;
          named_are = refl;
          indexed = indices_stay ms found found ms indexed;
          normalized = rows_normalized ms found;
          few = subst (λ (k : ℕ). k ≤ 4096) (sym (loads_length ms found)) few;
        };
        table_is = refl;
        sorted = names_sorted found sorted whole ms indexed;
        mains_are = main_units ms found whole found (λ p a. a);
        rows = rows_are found sorted whole ms indexed;
      };
      normalized = record { mains = ms; indexed = indexed; names_are = refl; named_are = refl };
    })

-- and the load is made of it
pub normalized_load : {F : Type 0} (found : List (Name × NameLoad)) (all : List Normalized) (viewer : Viewer) (extra : List Name) (words : NamedWords) → AreNormalized found (name_loads all) (name_lists all)
    → (r : Result LoadMap F) → IfOk r (λ load. load.viewer ≡ viewer) → IfOk r (λ load. load.extra ≡ extra) → IfOk r (λ load. load.names ≡ name_loads all) → IfOk r (λ load. load.named ≡ name_lists all)
    → IfOk r (λ load. load.words ≡ words) → IfOk r (IsNormalizedLoad found viewer extra words)
normalized_load found all viewer extra words h (Ok load) own asked e f kept =
    let P : List (Name × NameLoad) → Type 0 = λ names. AreNormalized found names load.named in
    let Q : List (List DependencyList) → Type 0 = λ named. AreNormalized found (name_loads all) named in
    record { viewer_is = own; extra_is = asked; normalized = subst P (sym e) (subst Q (sym f) h); words_are = kept }
normalized_load found all viewer extra words h (Err x) own asked e f kept = tt

-- ---- how indices are found

pub none_indexed : (found : List (Name × NameLoad)) (ms : List (Name × ℕ)) → ms ≡ [] → AreIndexed found [] ms
none_indexed found ms e = let P : List (Name × ℕ) → Type 0 = λ l. AreIndexed found [] l in subst P (sym e) tt

-- the main name of a name is its own, unless it is an alias
own_main : (n : Name) (load : NameLoad) → None ≡ alias_in load → n ≡ main_name (n, load)
own_main n (OfUnit u) e = refl
own_main n (OfAlias m) e = absurd (none-some _ e)

alias_main_name : (n m : Name) (load : NameLoad) → Some m ≡ alias_in load → m ≡ main_name (n, load)
alias_main_name n m (OfUnit u) e = absurd (none-some _ (sym e))
alias_main_name n m (OfAlias k) e = same_Some _ _ e

-- a unit has its own index
pub unit_main : (found : List (Name × NameLoad)) (index : ℕ) (load : NameLoad) → index < length found → None ≡ alias_in load → IsMainIndex found (name_of found index, load) index
unit_main found index load l e = record { below = l; named = λ _. own_main (name_of found index) load e }

-- an alias has that of its main name
pub alias_main : (found : List (Name × NameLoad)) (n : Name) (load : NameLoad) (m : Name) (at : ℕ) → Some m ≡ alias_in load → IsAt name_cmp m found at → IsMainIndex found (n, load) at
alias_main found n load m at e a = record {
  below = at_within name_cmp m found at a;
  named = λ _. key_found name_cmp (slice_cmp-IsAntisymmetric nat_cmp-IsAntisymmetric) m found at [] a ∙ alias_main_name n m load e;
}

-- or any index, if that wasn't found
pub no_main : (found : List (Name × NameLoad)) → IsTrue (is_sorted name_cmp found) → (index : ℕ) (n : Name) (load : NameLoad) (m : Name) (at : ℕ) → index < length found → Some m ≡ alias_in load → IsGap name_cmp m found at
    → IsMainIndex found (n, load) index
no_main found sorted index n load m at l e g = record {
  below = l;
  named = λ h. absurd (none (let P : Name → Type 0 = λ x. IsAmong x (keys_of found) in subst P (sym (alias_main_name n m load e)) h));
}
  where
    none : IsAmong m (keys_of found) → ⊥
    none h =
        let r = among_map (λ (p : Name × NameLoad). p.0) found m h in
        let P : Name → Type 0 = λ x. IsAmong {X = Name × NameLoad} (x, r.source.1) found in
        none-some _ (sym (find_gap name_cmp m nat_list_cmp_total found at sorted g)
        ∙ among_find name_cmp nat_list_cmp_total m r.source.1 found sorted (subst P r.makes r.there))

-- the index that a search gives, unless it is the unit's
pub index_at : (ms : List (Name × ℕ)) (unit n : Name) (at : ℕ) (d : Name × ℕ) → IsAt name_cmp n ms at → other_index ms unit n ≡ unless_unit ms unit (get_or ms at d).1
index_at ms unit n at d a = ap (option_and_then (unless_unit ms unit)) (find_at name_cmp n ms at d a)

pub index_none : (ms : List (Name × ℕ)) (unit n : Name) (at : ℕ) → IsTrue (is_sorted name_cmp ms) → IsGap name_cmp n ms at → other_index ms unit n ≡ None
index_none ms unit n at s g = ap (option_and_then (unless_unit ms unit)) (find_gap name_cmp n nat_list_cmp_total ms at s g)

-- an index, unless it is skipped
abbrev pub pick : Bool → ℕ → Option ℕ
pick passed index = if passed then None else Some index

-- the name at an index
pub own_key : (ms : List (Name × ℕ)) (index : ℕ) (x : Name × ℕ) → index < length ms → x ≡ get_or ms index x → key_at ms index ≡ x.0
own_key ms index x l e = sym (key_at_place ms index x [] l) ∙ ap (λ (p : Name × ℕ). p.0) (sym e)

-- the index that is read at the place of a name, unless the name there is the unit's
pub other_is : (ms : List (Name × ℕ)) → IsIndex ms → (unit n : Name) (at : ℕ) (x y : Name × ℕ) → IsAt name_cmp n ms at → x ≡ get_or ms at x → y ≡ get_or ms x.1 y → (b : Bool) → is_same y.0 unit ≡ b
    → other_index ms unit n ≡ pick b x.1
other_is ms index unit n at x y a e f b g =
    let P : Name × ℕ → Type 0 = λ p. p.1 < length ms in
    let l : x.1 < length ms = subst P (sym e) (index.within at x (at_within name_cmp n ms at a)) in
    index_at ms unit n at x a ∙ ap (λ (p : Name × ℕ). unless_unit ms unit p.1) (sym e)
    ∙ ap (λ (k : Name). pick (is_same k unit) x.1) (own_key ms x.1 y l f) ∙ ap (λ (c : Bool). pick c x.1) g
