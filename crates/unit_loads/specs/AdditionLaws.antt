-- Laws of the lists with what a manager adds: their kinds, their order, and just which names they have.
use Rattle.std.proofs.Common.{if◌then◌else◌, ◌++◌, ◌∷◌, ◌≡◌, ◌⊎◌}
use Rattle.setting_rules.specs.declared.kinds.DepKind.TheVariants.{Requires, Wants}
use Rattle.unit_loads.specs.Prelude.{[], After, AllByRecursion, among_from_contains, ap, Before, BindsTo, Bool, cond, Conflicts, Contains, contains_from_among, DependencyList, DepKind, eq-eqb, eqb-true, false, Files, filter, flat_map, implied_names, in_byte_order, inl, inr, InSlice, IsAmong, IsAmong-append_cases, IsAmong-append_left, IsAmong-append_right, IsStrictlySortedBy, IsStrictlySortedBy-filter, IsTrue, kind, List, Manager, map, Name, name_cmp, names_ascend, names_stay, naming_kinds, nat_eq, not, OnFailure, PartOf, place_of_kind, Profile, PropagatesReloadTo, refl, ReloadPropagatedFrom, Requisite, Row, suc, subst, sym, TriggeredBy, Triggers, true, true≢false, Upholds, WantedBy, zero, ℕ, ◌∙◌, counted_for, facts_of, is_device_by, name_for, names_for, unless_device, with_implied, with_names}
use Rattle.unit_loads.specs.{MemberLaws.{among_flat_map, among_map, flat_map_among, map_among}, NamedUnits.{Counts, IsListed}}

-- ---- kinds by their places

abbrev kind_at : ℕ → DepKind
kind_at zero = Before
kind_at (suc zero) = After
kind_at (suc (suc zero)) = Wants
kind_at (suc (suc (suc zero))) = Requires
kind_at (suc (suc (suc (suc zero)))) = Requisite
kind_at (suc (suc (suc (suc (suc zero))))) = BindsTo
kind_at (suc (suc (suc (suc (suc (suc zero)))))) = PartOf
kind_at (suc (suc (suc (suc (suc (suc (suc zero))))))) = Conflicts
kind_at (suc (suc (suc (suc (suc (suc (suc (suc zero)))))))) = OnFailure
kind_at (suc (suc (suc (suc (suc (suc (suc (suc (suc zero))))))))) = PropagatesReloadTo
kind_at (suc (suc (suc (suc (suc (suc (suc (suc (suc (suc zero)))))))))) = ReloadPropagatedFrom
kind_at (suc (suc (suc (suc (suc (suc (suc (suc (suc (suc (suc zero))))))))))) = Upholds
kind_at (suc (suc (suc (suc (suc (suc (suc (suc (suc (suc (suc (suc zero)))))))))))) = Triggers
kind_at (suc (suc (suc (suc (suc (suc (suc (suc (suc (suc (suc (suc (suc zero))))))))))))) = TriggeredBy
kind_at (suc (suc (suc (suc (suc (suc (suc (suc (suc (suc (suc (suc (suc (suc zero)))))))))))))) = InSlice
kind_at other = WantedBy

-- the place of a kind by which a unit may name another is no other's
placed : (dep : DepKind) → nat_eq (place_of_kind dep) 15 ≡ false → kind_at (place_of_kind dep) ≡ dep
placed Before h = refl
placed After h = refl
placed Wants h = refl
placed Requires h = refl
placed Requisite h = refl
placed BindsTo h = refl
placed PartOf h = refl
placed Conflicts h = refl
placed OnFailure h = refl
placed PropagatesReloadTo h = refl
placed ReloadPropagatedFrom h = refl
placed Upholds h = refl
placed Triggers h = refl
placed TriggeredBy h = refl
placed InSlice h = refl
placed other h = absurd (true≢false h)

below_last : (kinds : List DepKind) (dep : DepKind)
    → AllByRecursion (λ kind. nat_eq (place_of_kind kind) 15 ≡ false) kinds → IsAmong dep kinds
    → nat_eq (place_of_kind dep) 15 ≡ false
below_last [] dep a h = absurd h
below_last (k ∷ kinds) dep a (inl e) = subst (λ (d : DepKind). nat_eq (place_of_kind d) 15 ≡ false) e a.0
below_last (k ∷ kinds) dep a (inr h) = below_last kinds dep a.1 h

one_place : (a b : DepKind) → IsAmong b naming_kinds → nat_eq (place_of_kind a) (place_of_kind b) ≡ true → a ≡ b
one_place a b naming e =
    let same : place_of_kind a ≡ place_of_kind b = eqb-true (place_of_kind a) (place_of_kind b) e in
    let below = below_last naming_kinds b (refl, (refl, (refl, (refl, (refl, (refl, (refl, (refl, (refl, (refl, (refl, (refl, (refl, (refl, (refl, tt))))))))))))))) naming in
    sym (placed a (subst (λ (n : ℕ). nat_eq n 15 ≡ false) (sym same) below)) ∙ ap kind_at same ∙ placed b below

own_place : (dep : DepKind) → nat_eq (place_of_kind dep) (place_of_kind dep) ≡ true
own_place dep = eq-eqb (place_of_kind dep) (place_of_kind dep) refl

-- ---- the names of a kind

module _ (implied : List (DepKind × Name)) (dep : DepKind) (v : Name) where
  name_for_is : (entry : DepKind × Name) → IsAmong dep naming_kinds → IsAmong v (name_for dep entry) → entry ≡ (dep, v)
  name_for_is entry naming h = by (nat_eq (place_of_kind entry.0) (place_of_kind dep)) refl h
    where
      by : (b : Bool) → nat_eq (place_of_kind entry.0) (place_of_kind dep) ≡ b
          → IsAmong v (if b then entry.1 ∷ [] else []) → entry ≡ (dep, v)
      by true e (inl same) =
          ap (λ (d : DepKind). let p : DepKind × Name = (d, entry.1) in p) (one_place entry.0 dep naming e)
          ∙ ap (λ (n : Name). let p : DepKind × Name = (dep, n) in p) same
      by true e (inr h) = absurd h
      by false e h = absurd h

  -- the names of a kind are those that are implied by it
  pub names_for_are : IsAmong dep naming_kinds → IsAmong v (names_for implied dep) → IsAmong {X = DepKind × Name} (dep, v) implied
  names_for_are naming h =
      let from = among_flat_map (name_for dep) implied v h in
      subst (λ (e : DepKind × Name). IsAmong {X = DepKind × Name} e implied) (name_for_is from.source naming from.makes) from.there

  pub names_for_have : IsAmong {X = DepKind × Name} (dep, v) implied → IsAmong v (names_for implied dep)
  names_for_have h = flat_map_among (name_for dep) implied (dep, v) v h (subst (λ (b : Bool). IsAmong v (if b then v ∷ [] else [])) (sym (own_place dep)) (inl refl))

-- ---- what counts

unless_device_filters : (names : List Name) → flat_map unless_device names ≡ filter (λ n. not (is_device_by (kind n))) names
unless_device_filters [] = refl
unless_device_filters (n ∷ names) = by (is_device_by (kind n)) (unless_device_filters names)
  where
    by : (b : Bool) → flat_map unless_device names ≡ filter (λ n. not (is_device_by (kind n))) names
        → (if b then [] else n ∷ []) ++ flat_map unless_device names ≡ cond (not b)
        (n ∷ filter (λ n. not (is_device_by (kind n))) names) (filter (λ n. not (is_device_by (kind n))) names)
    by true rest = rest
    by false rest = ap (λ (l : List Name). n ∷ l) rest

-- names in ascending order still ascend
pub counted_ascends : (dep : DepKind) (names : List Name) → IsStrictlySortedBy name_cmp names
    → IsStrictlySortedBy name_cmp (counted_for dep names)
counted_ascends Before names h =
    subst (IsStrictlySortedBy name_cmp) (sym (unless_device_filters names)) (IsStrictlySortedBy-filter name_cmp (λ n. not (is_device_by (kind n))) names h)
counted_ascends other names h = h

unless_device_is : (n v : Name) → IsAmong v (unless_device n) → (n ≡ v) × IsTrue (not (is_device_by (kind v)))
unless_device_is n v h = by (is_device_by (kind n)) refl h
  where
    by : (b : Bool) → is_device_by (kind n) ≡ b → IsAmong v (if b then [] else n ∷ []) → (n ≡ v) × IsTrue (not (is_device_by (kind v)))
    by true e h = absurd h
    by false e (inl same) = (same, ap (λ (x : Name). not (is_device_by (kind x))) (sym same) ∙ ap not e)
    by false e (inr h) = absurd h

unless_device_has : (v : Name) → IsTrue (not (is_device_by (kind v))) → IsAmong v (unless_device v)
unless_device_has v h = by (is_device_by (kind v)) h
  where
    by : (b : Bool) → IsTrue (not b) → IsAmong v (if b then [] else v ∷ [])
    by true h = absurd (true≢false (sym h))
    by false h = inl refl

counted_are : (dep : DepKind) (names : List Name) (v : Name) → IsAmong v (counted_for dep names) → Counts Manager dep v × IsAmong v names
counted_are Before names v h =
    let from = among_flat_map unless_device names v h in
    let is = unless_device_is from.source v from.makes in
    (is.1, subst (λ (n : Name). IsAmong n names) is.0 from.there)
counted_are other names v h = (tt, h)

counted_have : (dep : DepKind) (names : List Name) (v : Name) → Counts Manager dep v → IsAmong v names → IsAmong v (counted_for dep names)
counted_have Before names v counts h = flat_map_among unless_device names v v h (unless_device_has v counts)
counted_have other names v counts h = h

-- ---- a list with implied names

module _ (implied : List (DepKind × Name)) (list : DependencyList) (v : Name) where
  all_names : List Name
  all_names = list.names ++ names_for implied list.kind

  pub with_names_are : IsAmong list.kind naming_kinds → Contains (with_names implied list).names v
      → Counts Manager list.kind v × (Contains list.names v ⊎ IsAmong {X = DepKind × Name} (list.kind, v) implied)
  unfolding all_names
  with_names_are naming h =
      let counted = counted_are list.kind (in_byte_order all_names) v (among_from_contains v (with_names implied list).names h) in
      let joined = among_from_contains v all_names ((names_stay all_names v).0 (contains_from_among v (in_byte_order all_names) counted.1)) in
      (counted.0, by (IsAmong-append_cases v list.names (names_for implied list.kind) joined))
    where
      by : IsAmong v list.names ⊎ IsAmong v (names_for implied list.kind) → Contains list.names v ⊎ IsAmong {X = DepKind × Name} (list.kind, v) implied
      by (inl a) = inl (contains_from_among v list.names a)
      by (inr b) = inr (names_for_are implied list.kind v naming b)

  with_names_have : Counts Manager list.kind v → IsAmong v (list.names ++ names_for implied list.kind)
      → Contains (with_names implied list).names v
  with_names_have counts h =
      let joined = (names_stay (list.names ++ names_for implied list.kind) v).1 (contains_from_among v (list.names ++ names_for implied list.kind) h) in
      contains_from_among v (with_names implied list).names
      (counted_have list.kind (in_byte_order (list.names ++ names_for implied list.kind)) v counts
      (among_from_contains v (in_byte_order (list.names ++ names_for implied list.kind)) joined))

  pub with_names_keep : Counts Manager list.kind v → Contains list.names v → Contains (with_names implied list).names v
  with_names_keep counts h = with_names_have counts (IsAmong-append_left v list.names (names_for implied list.kind) (among_from_contains v list.names h))

  pub with_names_add : Counts Manager list.kind v → IsAmong {X = DepKind × Name} (list.kind, v) implied → Contains (with_names implied list).names v
  with_names_add counts h = with_names_have counts (IsAmong-append_right v list.names (names_for implied list.kind) (names_for_have implied list.kind v h))

-- ---- the lists

kinds_with : (implied : List (DepKind × Name)) (lists : List DependencyList)
    → map (λ (l : DependencyList). l.kind) (map (with_names implied) lists) ≡ map (λ (l : DependencyList). l.kind) lists
kinds_with implied [] = refl
kinds_with implied (list ∷ lists) = ap (λ (ks : List DepKind). list.kind ∷ ks) (kinds_with implied lists)

module _ (unit : Name) (rows : List Row) (lists : List DependencyList) where
  -- the lists have the same kinds
  pub kinds_stay : (profile : Profile) → map (λ (l : DependencyList). l.kind) (with_implied profile unit rows lists)
      ≡ map (λ (l : DependencyList). l.kind) lists
  kinds_stay Files = refl
  kinds_stay Manager = kinds_with (implied_names (facts_of unit rows)) lists

  -- and ascend
  pub implied_ascend : (profile : Profile) → ((list : DependencyList) → IsAmong list lists → IsStrictlySortedBy name_cmp list.names)
      → (list : DependencyList) → IsAmong list (with_implied profile unit rows lists) → IsStrictlySortedBy name_cmp list.names
  implied_ascend Files own list h = own list h
  implied_ascend Manager own list h =
      let from = among_map (with_names (implied_names (facts_of unit rows))) lists list h in
      subst (λ (l : DependencyList). IsStrictlySortedBy name_cmp l.names) from.makes
      (counted_ascends from.source.kind (in_byte_order (from.source.names ++ names_for (implied_names (facts_of unit rows)) from.source.kind))
      (names_ascend (from.source.names ++ names_for (implied_names (facts_of unit rows)) from.source.kind)))

  -- the unit implies the name by the kind, for a manager
  abbrev Implies : Profile → DepKind → Name → Type 0
  Implies profile dep v = (profile ≡ Manager) × IsAmong {X = DepKind × Name} (dep, v) (implied_names (facts_of unit rows))

  -- they have just what they had and what is implied, as far as it counts
  pub listed_from : (profile : Profile) (dep : DepKind) (v : Name)
      → ((list : DependencyList) → IsAmong list lists → IsAmong list.kind naming_kinds)
      → IsListed (with_implied profile unit rows lists) dep v → Counts profile dep v × (IsListed lists dep v ⊎ Implies profile dep v)
  listed_from Files dep v naming h = (tt, inl h)
  listed_from Manager dep v naming h =
      let implied = implied_names (facts_of unit rows) in
      let from = among_map (with_names implied) lists h.list (among_from_contains h.list (map (with_names implied) lists) h.there) in
      let kind_is : from.source.kind ≡ dep = ap (λ (l : DependencyList). l.kind) from.makes ∙ h.kind_is in
      let has = with_names_are implied from.source v (naming from.source from.there) (subst (λ (l : DependencyList). Contains l.names v) (sym from.makes) h.has_name) in
      subst (λ (d : DepKind). Counts Manager d v × (IsListed lists d v ⊎ Implies Manager d v)) kind_is (has.0, by from.source from.there has.1)
    where
      by : (list : DependencyList) → IsAmong list lists → Contains list.names v ⊎ IsAmong {X = DepKind × Name} (list.kind, v) (implied_names (facts_of unit rows)) → IsListed lists list.kind v ⊎ Implies Manager list.kind v
      by list there (inl a) = inl (record { list = list; there = contains_from_among list lists there; kind_is = refl; has_name = a })
      by list there (inr b) = inr (refl, b)

  listed_with : (list : DependencyList) (v : Name) → IsAmong list lists
      → Contains (with_names (implied_names (facts_of unit rows)) list).names v
      → IsListed (map (with_names (implied_names (facts_of unit rows))) lists) list.kind v
  listed_with list v there has =
      let implied = implied_names (facts_of unit rows) in
      record {
        list = with_names implied list;
        there = contains_from_among (with_names implied list) (map (with_names implied) lists) (map_among (with_names implied) lists list there);
        kind_is = refl;
        has_name = has;
      }

  pub listed_stays : (profile : Profile) (dep : DepKind) (v : Name) → Counts profile dep v → IsListed lists dep v
      → IsListed (with_implied profile unit rows lists) dep v
  listed_stays Files dep v counts h = h
  listed_stays Manager dep v counts h =
      let counts_there = subst (λ (d : DepKind). Counts Manager d v) (sym h.kind_is) counts in
      subst (λ (d : DepKind). IsListed (map (with_names (implied_names (facts_of unit rows))) lists) d v) h.kind_is
      (listed_with h.list v (among_from_contains h.list lists h.there) (with_names_keep (implied_names (facts_of unit rows)) h.list v counts_there h.has_name))

  pub implied_listed : (list : DependencyList) (v : Name) → IsAmong list lists → Counts Manager list.kind v
      → IsAmong {X = DepKind × Name} (list.kind, v) (implied_names (facts_of unit rows))
      → IsListed (with_implied Manager unit rows lists) list.kind v
  implied_listed list v there counts h = listed_with list v there (with_names_add (implied_names (facts_of unit rows)) list v counts h)
