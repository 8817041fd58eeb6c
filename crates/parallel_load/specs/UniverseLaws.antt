-- Laws of loads: each name of the universe is there with its main name, and each main name with its unit; what a unit's
-- dependencies are.
use Rattle.std.{proofs.Common.{◌↔◌, ◌∷◌, ◌≡◌, ◌≢◌}, specs.FinMap.Entries.{is_sorted}}
use Rattle.parallel_load.specs.Prelude.{[], All, All-head, All-tail, among_filter, among_from_contains, among_map, ap, Bool, Contains, contains_from_among, DependencyList, DepKind, false, filter, filter_among, HasSource, HostViewMap, inl, inr, is_same, IsAmong, IsListed, IsNamed, IsStrictlySortedBy, IsTrue, keys_of, List, lists_have_what_is_named, LoadedUnit, main, mains_are_their_own, map, map_among, Name, name_cmp, name_eq-Decides, names_stay, nat_cmp-IsAntisymmetric, nat_list_cmp_total, None, not, Option, option_and_then, option_map, refl, slice_cmp-IsAntisymmetric, Some, subst, suc, sym, true, ◌∙◌}
use Rattle.parallel_load.specs.{declared.loaded.NameLoad.{NameLoad, TheVariants.{Alias as OfAlias, Unit as OfUnit}}, KeyLaws.{sorted_from_keys}, Loads.{IsLoad, IsLoadedUnit, IsNameLoad, list_by_mains, load_at, LoadMap, main_in, main_part, unit_in, unit_part}, PairLaws.{among_find, find_among}, Universe.{IsInUniverse}}

-- this is the unit of a main name of the load
pub record HasUnit (s : HostViewMap) (load : LoadMap) (name : Name) : Type 0 where
  pub unit : LoadedUnit
  pub there : unit_in load name ≡ Some unit
  pub is_unit : IsLoadedUnit s name unit

-- the unit names v for this kind, by one of v's names, and is another unit
pub record IsDependency (s : HostViewMap) (name : Name) (dep : DepKind) (v : Name) : Type 0 where
  pub word : Name
  pub named : IsNamed s name dep word
  pub main_is : main s word ≡ v
  pub other : v ≢ name

-- Exactly the names of the universe have a main name in the load, and its unit is there.
abbrev pub NamesHaveMains : Type 0
NamesHaveMains = (s : HostViewMap) (extra : List Name) (load : LoadMap) (n m : Name) → IsLoad s extra load → (main_in load n ≡ Some m) ↔ (IsInUniverse s extra n × (main s n ≡ m))

abbrev pub MainsHaveUnits : Type 0
MainsHaveUnits = (s : HostViewMap) (extra : List Name) (load : LoadMap) (n : Name) → IsLoad s extra load → IsInUniverse s extra n → HasUnit s load (main s n)

-- The units of a load are those of its names that are their own mains.
abbrev pub UnitsAreTheirOwnMains : Type 0
UnitsAreTheirOwnMains = (s : HostViewMap) (extra : List Name) (load : LoadMap) (n : Name) (unit : LoadedUnit) → IsLoad s extra load → unit_in load n ≡ Some unit
    → IsInUniverse s extra n × (main s n ≡ n) × IsLoadedUnit s n unit

-- A unit's dependencies in a load are the main names of what it names, without the unit itself.
abbrev pub DependenciesAreMains : Type 0
DependenciesAreMains = (s : HostViewMap) (extra : List Name) (load : LoadMap) (n : Name) (unit : LoadedUnit) (dep : DepKind) (v : Name) → IsLoad s extra load → unit_in load n ≡ Some unit
    → IsListed unit.deps dep v ↔ IsDependency s n dep v

-- The units of these dependencies are in the load.
abbrev pub DependenciesAreLoaded : Type 0
DependenciesAreLoaded = (s : HostViewMap) (extra : List Name) (load : LoadMap) (n : Name) (unit : LoadedUnit) (dep : DepKind) (v : Name) → IsLoad s extra load → unit_in load n ≡ Some unit
    → IsListed unit.deps dep v → HasUnit s load v

-- ---- what is in a load

pub sorted_from : (es : List (Name × NameLoad)) → IsStrictlySortedBy name_cmp (keys_of es) → IsTrue (is_sorted name_cmp es)
sorted_from es h = sorted_from_keys name_cmp es h

-- what holds of all holds of each
pub all_among : {X : Type 0} (P : X → Type 0) (xs : List X) (x : X) → All P xs → IsAmong x xs → P x
all_among P [] x a h = absurd h
all_among P (y ∷ ys) x a (inl e) = subst P e (All-head P y ys a)
all_among P (y ∷ ys) x a (inr h) = all_among P ys x (All-tail P y ys a) h

-- what a name of the load resolves to
record ResolvesTo (s : HostViewMap) (load : LoadMap) (n : Name) (one : NameLoad) : Type 0 where
  at : load_at load n ≡ Some one
  is : IsNameLoad s n one

module _ (s : HostViewMap) (extra : List Name) (load : LoadMap) (l : IsLoad s extra load) where
  sorted : IsTrue (is_sorted name_cmp load.names)
  sorted = sorted_from load.names l.universe.ascending

  is_load : (n : Name) (one : NameLoad) → load_at load n ≡ Some one → IsNameLoad s n one
  is_load n one e =
      all_among (λ (p : Name × NameLoad). IsNameLoad s p.0 p.1) load.names (n, one) l.loaded
      (find_among name_cmp (slice_cmp-IsAntisymmetric nat_cmp-IsAntisymmetric) n load.names one e)

  in_universe : (n : Name) (one : NameLoad) → load_at load n ≡ Some one → IsInUniverse s extra n
  in_universe n one e =
      (l.universe.members n).0
      (map_among (λ (p : Name × NameLoad). p.0) load.names (n, one) (find_among name_cmp (slice_cmp-IsAntisymmetric nat_cmp-IsAntisymmetric) n load.names one e))

  there : (n : Name) → IsInUniverse s extra n → (one : NameLoad) × (load_at load n ≡ Some one)
  there n h =
      let r = among_map (λ (p : Name × NameLoad). p.0) load.names n ((l.universe.members n).1 h) in
      (r.source.1, among_find name_cmp nat_list_cmp_total n r.source.1 load.names sorted (subst (λ (x : Name). IsAmong {X = Name × NameLoad} (x, r.source.1) load.names) r.makes r.there))

  main_of : (n : Name) (one : NameLoad) → IsNameLoad s n one → main_part one ≡ main s n
  main_of n (OfUnit u) p = ap (λ (x : LoadedUnit). x.name) p.by_mains_is ∙ p.is_unit.name_is ∙ sym p.is_unit.main_is
  main_of n (OfAlias m) p = sym p.main_is

  main_there : (n : Name) → IsInUniverse s extra n → main_in load n ≡ Some (main s n)
  main_there n h =
      let r = there n h in
      ap (option_map main_part) r.1 ∙ ap Some (main_of n r.0 (is_load n r.0 r.1))

  main_from : (n m : Name) → main_in load n ≡ Some m → IsInUniverse s extra n × (main s n ≡ m)
  main_from n m e = by (load_at load n) refl e
    where
      same : (x y : Name) → Some x ≡ Some y → x ≡ y
      same x y h = cc (h)

      by : (o : Option NameLoad) → load_at load n ≡ o → option_map main_part o ≡ Some m → IsInUniverse s extra n × (main s n ≡ m)
      by None f g = cc (g)
      by (Some one) f g = (in_universe n one f, sym (main_of n one (is_load n one f)) ∙ same (main_part one) m g)

  main_in_universe : (n : Name) → IsInUniverse s extra n → IsInUniverse s extra (main s n)
  main_in_universe n h = record { steps = suc h.steps; chain = (n, (h.chain, inl refl)) }

  own_unit : (n : Name) (one : NameLoad) → load_at load n ≡ Some one → main s n ≡ n → HasUnit s load n
  own_unit n one e own = by one e (is_load n one e)
    where
      by : (one : NameLoad) → load_at load n ≡ Some one → IsNameLoad s n one → HasUnit s load n
      by (OfUnit u) f p = record { unit = u; there = ap (option_and_then unit_part) f; is_unit = p }
      by (OfAlias m) f p = absurd (p.other (sym p.main_is ∙ own))

  unit_there : (n : Name) → IsInUniverse s extra n → HasUnit s load (main s n)
  unit_there n h =
      let r = there (main s n) (main_in_universe n h) in
      own_unit (main s n) r.0 r.1 (ap (λ r. r.main) (mains_are_their_own s n).1)

  unit_from : (n : Name) (unit : LoadedUnit) → unit_in load n ≡ Some unit → IsInUniverse s extra n × (main s n ≡ n) × IsLoadedUnit s n unit
  unit_from n unit e = by (load_at load n) refl e
    where
      same : (x y : LoadedUnit) → Some x ≡ Some y → x ≡ y
      same x y h = cc (h)

      of_unit : (u : LoadedUnit) → load_at load n ≡ Some (OfUnit u) → u ≡ unit
          → IsInUniverse s extra n × (main s n ≡ n) × IsLoadedUnit s n unit
      of_unit u f g =
          let p = is_load n (OfUnit u) f in
          (in_universe n (OfUnit u) f, p.is_unit.main_is, subst (IsLoadedUnit s n) g p)

      by : (o : Option NameLoad) → load_at load n ≡ o → option_and_then unit_part o ≡ Some unit
          → IsInUniverse s extra n × (main s n ≡ n) × IsLoadedUnit s n unit
      by None f g = cc (g)
      by (Some (OfUnit u)) f g = of_unit u f (same u unit g)
      by (Some (OfAlias m)) f g = cc (g)

-- ---- dependencies

module _ (s : HostViewMap) (n : Name) where
  not_same : (m : Name) → not (is_same m n) ≡ true → m ≢ n
  not_same m h e = differ (sym (ap not ((name_eq-Decides m n).1 e)) ∙ h)
    where
      differ : false ≡ true → ⊥
      differ k = cc (k)

  same_not : (m : Name) → m ≢ n → not (is_same m n) ≡ true
  same_not m d = by (is_same m n) refl
    where
      by : (b : Bool) → is_same m n ≡ b → not b ≡ true
      by true e = absurd (d ((name_eq-Decides m n).0 e))
      by false e = refl

  -- a name in a list by main names is the main name of one in the list, and not the unit's
  from_mains : (names : List Name) (v : Name) → IsAmong v (filter (λ m. not (is_same m n)) (map (main s) names))
      → HasSource (λ w z. main s w ≡ z) names v × (v ≢ n)
  from_mains names v h =
      let r = among_filter (λ m. not (is_same m n)) (map (main s) names) v h in
      (among_map (main s) names v r.0, not_same v r.1)

  to_mains : (names : List Name) (w v : Name) → IsAmong w names → main s w ≡ v → v ≢ n
      → IsAmong v (filter (λ m. not (is_same m n)) (map (main s) names))
  to_mains names w v h e d =
      filter_among (λ m. not (is_same m n)) (map (main s) names) v (subst (λ (x : Name). IsAmong x (map (main s) names)) e (map_among (main s) names w h)) (same_not v d)

  listed_by_mains : (lists : List DependencyList) (dep : DepKind) (v : Name) → IsListed (map (list_by_mains (main s) n) lists) dep v
      → (w : Name) × IsListed lists dep w × (main s w ≡ v) × (v ≢ n)
  listed_by_mains lists dep v l =
      let r = among_map (list_by_mains (main s) n) lists l.list (among_from_contains l.list _ l.there) in
      let has = (names_stay (filter (λ m. not (is_same m n)) (map (main s) r.source.names)) v).0 (subst (λ (x : DependencyList). Contains x.names v) (sym r.makes) l.has_name) in
      let f = from_mains r.source.names v (among_from_contains v _ has) in (
        f.0.source,
        record {
          list = r.source;
          there = contains_from_among r.source lists r.there;
          kind_is = ap (λ (x : DependencyList). x.kind) r.makes ∙ l.kind_is;
          has_name = contains_from_among f.0.source r.source.names f.0.there;
        },
        f.0.makes,
        f.1,
      )

  mains_listed : (lists : List DependencyList) (dep : DepKind) (w v : Name) → IsListed lists dep w → main s w ≡ v
      → v ≢ n → IsListed (map (list_by_mains (main s) n) lists) dep v
  mains_listed lists dep w v l e d = record {
    list = list_by_mains (main s) n l.list;
    there = contains_from_among _ _ (map_among (list_by_mains (main s) n) lists l.list (among_from_contains l.list lists l.there));
    kind_is = l.kind_is;
    has_name =
        (names_stay (filter (λ m. not (is_same m n)) (map (main s) l.list.names)) v).1
        (contains_from_among v _ (to_mains l.list.names w v (among_from_contains w l.list.names l.has_name) e d));
  }

dependencies_of : (s : HostViewMap) (n : Name) (unit : LoadedUnit) (dep : DepKind) (v : Name) → IsLoadedUnit s n unit
    → IsListed unit.deps dep v ↔ IsDependency s n dep v
dependencies_of s n unit dep v p = (there, back)
  where
    lists : List DependencyList
    lists = p.alone.deps

    same : unit.deps ≡ map (list_by_mains (main s) n) p.alone.deps
    same = ap (λ (x : LoadedUnit). x.deps) p.by_mains_is ∙ ap (λ (m : Name). map (list_by_mains (main s) m) p.alone.deps) p.is_unit.name_is

    there : IsListed unit.deps dep v → IsDependency s n dep v
    there l =
        let r = listed_by_mains s n p.alone.deps dep v (subst (λ ls. IsListed ls dep v) same l) in
        record { word = r.0; named = (lists_have_what_is_named s n p.alone dep r.0 p.is_unit).0 r.1; main_is = r.2; other = r.3 }

    back : IsDependency s n dep v → IsListed unit.deps dep v
    back d =
        subst (λ ls. IsListed ls dep v) (sym same)
        (mains_listed s n p.alone.deps dep d.word v ((lists_have_what_is_named s n p.alone dep d.word p.is_unit).1 d.named) d.main_is d.other)

-- ---- the laws

pub names_have_mains : NamesHaveMains
names_have_mains s extra load n m l = (main_from s extra load l n m, λ h. main_there s extra load l n h.0 ∙ ap Some h.1)

pub mains_have_units : MainsHaveUnits
mains_have_units s extra load n l h = unit_there s extra load l n h

pub units_are_their_own_mains : UnitsAreTheirOwnMains
units_are_their_own_mains s extra load n unit l e = unit_from s extra load l n unit e

pub dependencies_are_mains : DependenciesAreMains
dependencies_are_mains s extra load n unit dep v l e = dependencies_of s n unit dep v (unit_from s extra load l n unit e).2

pub dependencies_are_loaded : DependenciesAreLoaded
dependencies_are_loaded s extra load n unit dep v l e h =
    let u = unit_from s extra load l n unit e in
    let d = (dependencies_of s n unit dep v u.2).0 h in
    let word : IsInUniverse s extra d.word =
    record { steps = suc u.0.steps; chain = (n, (u.0.chain, inr (record { own = u.1; dep = dep; named = d.named }))) } in
    subst (HasUnit s load) d.main_is (unit_there s extra load l d.word word)
