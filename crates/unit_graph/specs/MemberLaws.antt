-- The members of a load of a store: their names are in ascending order, and are those of its units.
use Rattle.std.proofs.Common.{◌↔◌, ◌∷◌, ◌≡◌}
use Rattle.unit_graph.specs.Prelude.{[], All, All-head, All-tail, AllByRecursion, among_find, and_parts, ap, below_all, cons_option, filter_map, find_among, HostViewMap, inl, inr, is_less, is_sorted, IsAmong, IsLoad, IsNameLoad, IsStrictlySortedBy, IsTrue, IsUnitIn, Less, List, load_at, LoadedUnit, LoadMap, map, Name, name_cmp, name_cmp-IsAntisymmetric, NameLoad, nat_list_cmp_total, None, none-some, OfAlias, OfUnit, Option, option_and_then, refl, Some, sorted_from, subst, sym, unit_part, ◌∙◌}
use Rattle.unit_graph.specs.Graphs.{members_in}

-- the members are in ascending order, and are the units
pub record HasMembers (load : LoadMap) : Type 0 where
  pub ascending : IsStrictlySortedBy name_cmp (members_in load)
  pub exact : (v : Name) → IsAmong v (members_in load) ↔ IsUnitIn load v

-- In a load of a store the members are its units, in byte order.
abbrev pub MembersAreUnits : Type 0
MembersAreUnits = (s : HostViewMap) (extra : List Name) (load : LoadMap) → IsLoad s extra load → HasMembers load

abbrev names_in_pairs : List (Name × NameLoad) → List Name
names_in_pairs es = map (λ u. u.name) (filter_map (λ p. unit_part p.1) es)

abbrev with_part : NameLoad → List (Name × NameLoad) → List Name
with_part one es = map (λ u. u.name) (cons_option (unit_part one) (filter_map (λ p. unit_part p.1) es))

-- a unit is paired with its own name
abbrev IsRight : Name → NameLoad → Type 0
IsRight n (OfUnit unit) = unit.name ≡ n
IsRight n (OfAlias of) = Unit {0}

abbrev AreRight : List (Name × NameLoad) → Type 0
AreRight [] = Unit {0}
AreRight (e ∷ es) = IsRight e.0 e.1 × AreRight es

right_one : (s : HostViewMap) (n : Name) (one : NameLoad) → IsNameLoad s n one → IsRight n one
right_one s n (OfUnit unit) p = ap (λ (u : LoadedUnit). u.name) p.by_mains_is ∙ p.is_unit.name_is
right_one s n (OfAlias of) p = tt

right_all : (s : HostViewMap) (es : List (Name × NameLoad)) → All (λ p. IsNameLoad s p.0 p.1) es → AreRight es
right_all s [] a = tt
right_all s (e ∷ es) a =
    let P : Name × NameLoad → Type 0 = λ p. IsNameLoad s p.0 p.1 in
    (right_one s e.0 e.1 (All-head P e es a), right_all s es (All-tail P e es a))

below_more : (x n : Name) (one : NameLoad) (es : List (Name × NameLoad)) → IsRight n one → name_cmp x n ≡ Less
    → AllByRecursion (λ y. name_cmp x y ≡ Less) (names_in_pairs es) → AllByRecursion (λ y. name_cmp x y ≡ Less) (with_part one es)
below_more x n (OfUnit unit) es r l rest = (ap (name_cmp x) r ∙ l, rest)
below_more x n (OfAlias of) es r l rest = rest

below_names : (x : Name) (es : List (Name × NameLoad)) → AreRight es → IsTrue (below_all name_cmp x es)
    → AllByRecursion (λ y. name_cmp x y ≡ Less) (names_in_pairs es)
below_names x [] r b = tt
below_names x (e ∷ es) r b = below_more x e.0 e.1 es r.0 (is_less _ (and_parts _ _ b).0) (below_names x es r.1 (and_parts _ _ b).1)

ascending_more : (n : Name) (one : NameLoad) (es : List (Name × NameLoad)) → IsRight n one
    → AllByRecursion (λ y. name_cmp n y ≡ Less) (names_in_pairs es)
    → IsStrictlySortedBy name_cmp (names_in_pairs es) → IsStrictlySortedBy name_cmp (with_part one es)
unfolding IsStrictlySortedBy
ascending_more n (OfUnit unit) es r below rest = (subst (λ m. AllByRecursion (λ y. name_cmp m y ≡ Less) (names_in_pairs es)) (sym r) below, rest)
ascending_more n (OfAlias of) es r below rest = rest

ascending_names : (es : List (Name × NameLoad)) → AreRight es → IsTrue (is_sorted name_cmp es)
    → IsStrictlySortedBy name_cmp (names_in_pairs es)
unfolding IsStrictlySortedBy
ascending_names [] r s = tt
ascending_names (e ∷ es) r s = ascending_more e.0 e.1 es r.0 (below_names e.0 es r.1 (and_parts _ _ s).0) (ascending_names es r.1 (and_parts _ _ s).1)

-- the load has a unit at this name
abbrev Stands : Name → List (Name × NameLoad) → Type 0
Stands v es = (unit : LoadedUnit) × IsAmong {X = Name × NameLoad} (v, OfUnit unit) es

stands_more : (v n : Name) (one : NameLoad) (es : List (Name × NameLoad)) → IsRight n one
    → (IsAmong v (names_in_pairs es) → Stands v es) → IsAmong v (with_part one es) → Stands v ((n, one) ∷ es)
stands_more v n (OfUnit unit) es r more (inl e) = (unit, inl (ap (λ (m : Name). let p : Name × NameLoad = (m, OfUnit unit) in p) (sym r ∙ e)))
stands_more v n (OfUnit unit) es r more (inr h) = let q = more h in (q.0, inr q.1)
stands_more v n (OfAlias of) es r more h = let q = more h in (q.0, inr q.1)

stands : (v : Name) (es : List (Name × NameLoad)) → AreRight es → IsAmong v (names_in_pairs es) → Stands v es
stands v [] r h = absurd h
stands v (e ∷ es) r h = stands_more v e.0 e.1 es r.0 (stands v es r.1) h

listed_still : (v : Name) (one : NameLoad) (es : List (Name × NameLoad)) → IsAmong v (names_in_pairs es) → IsAmong v (with_part one es)
listed_still v (OfUnit unit) es h = inr h
listed_still v (OfAlias of) es h = h

listed : (v : Name) (unit : LoadedUnit) (es : List (Name × NameLoad)) → AreRight es → IsAmong {X = Name × NameLoad} (v, OfUnit unit) es → IsAmong v (names_in_pairs es)
listed v unit [] r h = absurd h
listed v unit (e ∷ es) r (inl f) =
    let P : Name × NameLoad → Type 0 = λ p. IsRight p.0 p.1 in
    let Q : NameLoad → Type 0 = λ one. IsAmong v (with_part one es) in
    subst Q (sym (ap (λ (p : Name × NameLoad). p.1) f)) (inl (subst P f r.0))
listed v unit (e ∷ es) r (inr h) = listed_still v e.1 es (listed v unit es r.1 h)

pub members_are_units : MembersAreUnits
members_are_units s extra load l =
    let sorted = sorted_from load.names l.universe.ascending in
    let right = right_all s load.names l.loaded in
    record {
      ascending = ascending_names load.names right sorted;
      exact = λ v. (
        λ h. (let q = stands v load.names right h in
            (q.0, ap (λ o. option_and_then unit_part o) (among_find name_cmp nat_list_cmp_total v (OfUnit q.0) load.names sorted q.1))),
        λ u. back v right u.0 (load_at load v) refl u.1,
      );
    }
  where
    of_part : (one : NameLoad) (unit : LoadedUnit) → unit_part one ≡ Some unit → one ≡ OfUnit unit
    of_part (OfUnit u) unit e = let f : u ≡ unit = cc (e) in ap OfUnit f
    of_part (OfAlias of) unit e = absurd (none-some _ e)

    back : (v : Name) → AreRight load.names → (unit : LoadedUnit) → (o : Option NameLoad) → load_at load v ≡ o
        → option_and_then unit_part o ≡ Some unit → IsAmong v (members_in load)
    back v right unit None e f = absurd (none-some _ f)
    back v right unit (Some one) e f =
        listed v unit load.names right (find_among name_cmp name_cmp-IsAntisymmetric v load.names (OfUnit unit) (e ∙ ap Some (of_part one unit f)))
