-- What the mounts on the way to a unit's paths add to its row, by indices and by names.
use Rattle.std.proofs.Common.{◌++◌, ◌<◌, ◌↔◌, ◌∷◌, ◌≡◌, ◌⊎◌}
use Rattle.inverse_deps.proofs.Prelude.{[], After, ap, AreDependencyAdjacency, AreMade, AreRowsBy, Bad, BuiltIn, count_of, dependency, Dependency, DepKind, deps_by, deps_on, entry_at, fragment_by, get_or, HasAdded, inl, inr, is_loaded_by, is_sorted, IsAmong, IsAmong-append_left, IsAmong-push, IsAmong-push_cases, IsByMount, IsByMounts, IsByPath, IsGiven, IsIndexOf, IsMountFor, IsSome, IsTrue, length, List, Loaded, LoadedUnit, LoadMap, load_indexing, fragments_are_loaded, Manager, Masked, mounts_in, Name, name_at, name_cmp, NameLoad, NamesUnit, nat_list_cmp_total, NeedsMount, none-some, NotFound, OfAlias, OfUnit, one_index, own_rows, path_of, path_parts, refl, Requires, same_at, Some, Status, subst, sym, unit_at, unit_in, unit_index, unit_part, ℕ, ◌∙◌}
use Rattle.inverse_deps.proofs.Adding.{rows_added}

-- ---- by status

-- they are all on the mount's index
index_by : (status : Status) (at : ℕ) (one : Dependency) → IsAmong one (deps_by status at) → one.index ≡ at
index_by (Loaded place) at one (inl e) = ap (λ (d : Dependency). d.index) (sym e)
index_by (Loaded place) at one (inr (inl e)) = ap (λ (d : Dependency). d.index) (sym e)
index_by (Loaded place) at one (inr (inr n)) = absurd n
index_by BuiltIn at one (inl e) = ap (λ (d : Dependency). d.index) (sym e)
index_by BuiltIn at one (inr n) = absurd n
index_by NotFound at one n = absurd n
index_by Masked at one n = absurd n
index_by (Bad cause) at one n = absurd n

-- what a status says of a kind
abbrev ByStatus : Status → DepKind → Type 0
ByStatus status dep = ((dep ≡ After) × IsTrue (is_loaded_by status)) ⊎ ((dep ≡ Requires) × IsSome (fragment_by status))

kind_by : (status : Status) (at : ℕ) (one : Dependency) → IsAmong one (deps_by status at) → ByStatus status one.kind
kind_by (Loaded place) at one (inl e) = inl (ap (λ (d : Dependency). d.kind) (sym e), refl)
kind_by (Loaded place) at one (inr (inl e)) = inr (ap (λ (d : Dependency). d.kind) (sym e), refl)
kind_by (Loaded place) at one (inr (inr n)) = absurd n
kind_by BuiltIn at one (inl e) = inl (ap (λ (d : Dependency). d.kind) (sym e), refl)
kind_by BuiltIn at one (inr n) = absurd n
kind_by NotFound at one n = absurd n
kind_by Masked at one n = absurd n
kind_by (Bad cause) at one n = absurd n

among_by : (status : Status) (dep : DepKind) (at : ℕ) → ByStatus status dep → IsAmong (dependency dep at) (deps_by status at)
among_by (Loaded place) dep at (inl h) = inl (ap (λ (k : DepKind). dependency k at) (sym h.0))
among_by (Loaded place) dep at (inr h) = inr (inl (ap (λ (k : DepKind). dependency k at) (sym h.0)))
among_by BuiltIn dep at (inl h) = inl (ap (λ (k : DepKind). dependency k at) (sym h.0))
among_by BuiltIn dep at (inr h) = absurd (let w = h.1 in cc (w))
among_by NotFound dep at (inl h) = absurd (let w = h.1 in cc (w))
among_by NotFound dep at (inr h) = absurd (let w = h.1 in cc (w))
among_by Masked dep at (inl h) = absurd (let w = h.1 in cc (w))
among_by Masked dep at (inr h) = absurd (let w = h.1 in cc (w))
among_by (Bad cause) dep at (inl h) = absurd (let w = h.1 in cc (w))
among_by (Bad cause) dep at (inr h) = absurd (let w = h.1 in cc (w))

-- ---- one mount

module _ (load : LoadMap) (sorted : IsTrue (is_sorted name_cmp load.names)) (index : ℕ) (name : Name) (at : ℕ) (is : IsIndexOf load name at) where
  -- a dependency on the mount is on its index
  same_index : (one : Dependency) → IsByMount load index name one → one.index ≡ at
  same_index one m = one_index (count_of load) (name_at load) name_cmp nat_list_cmp_total (load_indexing load sorted) one.index at m.below is.below (m.named ∙ sym is.named)

  -- a unit has no dependency on itself
  pub none_on_itself : at ≡ index → (one : Dependency) → ¬ IsByMount load index name one
  none_on_itself e one m = m.another (same_index one m ∙ e)

  module _ (other : ¬ (at ≡ index)) where
    there : (load_is : NameLoad) → unit_in load name ≡ unit_part load_is → (one : Dependency) → IsAmong one (deps_on load_is at) → IsByMount load index name one
    there (OfUnit unit) e one a =
        let on : one.index ≡ at = index_by unit.status at one a in
        record {
          below = subst (λ (n : ℕ). n < count_of load) (sym on) is.below;
          named = ap (name_at load) on ∙ is.named;
          another = λ f. other (sym on ∙ f);
          mount = unit;
          mount_is = e;
          by_status = subst (λ (n : ℕ). IsAmong one (deps_by unit.status n)) (sym on) a;
        }
    there (OfAlias of) e one a = absurd a

    back : (load_is : NameLoad) → unit_in load name ≡ unit_part load_is → (one : Dependency) → IsByMount load index name one → IsAmong one (deps_on load_is at)
    back (OfUnit unit) e one m =
        let f : Some m.mount ≡ Some unit = sym m.mount_is ∙ e in
        let same : m.mount ≡ unit = cc (f) in
        subst (λ (u : LoadedUnit). IsAmong one (deps_by u.status at)) same (subst (λ (n : ℕ). IsAmong one (deps_by m.mount.status n)) (same_index one m) m.by_status)
    back (OfAlias of) e one m = absurd (none-some _ (sym e ∙ m.mount_is))

    -- what is at the mount's index has its dependencies
    pub mount_added : (names : List (Name × NameLoad)) → names ≡ load.names → (p d : Name × NameLoad) → p ≡ get_or names at d → (one : Dependency) → IsAmong one (deps_on p.1 at) ↔ IsByMount load index name one
    mount_added names same p d here one = (there p.1 unit_is one, back p.1 unit_is one)
      where
        unit_is : unit_in load name ≡ unit_part p.1
        unit_is =
            ap (λ (n : Name). unit_in load n) (sym is.named) ∙ unit_at load sorted at d is.below
            ∙ sym (ap (λ (q : Name × NameLoad). unit_part q.1) (here ∙ ap (λ (ns : List (Name × NameLoad)). get_or ns at d) same))

-- ---- several mounts

pub no_mounts : (load : LoadMap) (index : ℕ) (mounts : List Name) → mounts ≡ [] → (one : Dependency) → ¬ IsByMounts load index mounts one
no_mounts load index mounts e one m = absurd (subst (λ (ns : List Name). IsAmong m.name ns) e m.there)

pub one_more_mount : (load : LoadMap) (index : ℕ) (mounts more : List Name) (name : Name) → more ≡ mounts ++ name ∷ [] → (one : Dependency)
    → IsByMounts load index more one ↔ (IsByMounts load index mounts one ⊎ IsByMount load index name one)
one_more_mount load index mounts more name e one = (to, from)
  where
    to : IsByMounts load index more one → IsByMounts load index mounts one ⊎ IsByMount load index name one
    to m = elim (IsAmong-push_cases name m.name mounts (subst (λ (ns : List Name). IsAmong m.name ns) e m.there)) [
      | inl a ↦ inl (record { name = m.name; there = a; by_mount = m.by_mount })
      | inr f ↦ inr (subst (λ (n : Name). IsByMount load index n one) (sym f) m.by_mount)
    ]

    from : IsByMounts load index mounts one ⊎ IsByMount load index name one → IsByMounts load index more one
    from (inl m) = record { name = m.name; there = subst (λ (ns : List Name). IsAmong m.name ns) (sym e) (IsAmong-append_left m.name mounts (name ∷ []) m.there); by_mount = m.by_mount }
    from (inr m) = record { name = name; there = subst (λ (ns : List Name). IsAmong name ns) (sym e) (IsAmong-push name mounts); by_mount = m }

-- ---- by name

-- what mounts add to the row with an index
abbrev pub ByMountsAt : LoadMap → ℕ → Dependency → Type 0
ByMountsAt load index one = IsByMounts load index (mounts_in (entry_at load.names index).1) one

-- a row with what the mounts add, as code reads it
pub mounts_at_index : (load : LoadMap) (names : List (Name × NameLoad)) → names ≡ load.names → (own : List (List Dependency)) (i : ℕ) → i < length names → i < length own
    → (p d : Name × NameLoad) → p ≡ get_or names i d → (deps default : List Dependency) → deps ≡ get_or own i default → (row : List Dependency)
    → HasAdded deps (IsByMounts load i (mounts_in p.1)) row → HasAdded (get_or own i []) (ByMountsAt load i) row
mounts_at_index load names same own i l m p d p_is deps default deps_is row h =
    let none : Name × NameLoad = ([], OfAlias []) in
    let entry : p ≡ entry_at load.names i = p_is ∙ same_at names i d none l ∙ ap (λ (ns : List (Name × NameLoad)). get_or ns i none) same in
    let base : deps ≡ get_or own i [] = deps_is ∙ same_at own i default [] m in
    subst (λ (ds : List Dependency). HasAdded ds (ByMountsAt load i) row) base (subst (λ (q : Name × NameLoad). HasAdded deps (IsByMounts load i (mounts_in q.1)) row) entry h)

mounts_there : (load_is : NameLoad) (u : LoadedUnit) (v : Name) → Some u ≡ unit_part load_is → IsAmong v u.mounts → IsAmong v (mounts_in load_is)
mounts_there (OfUnit unit) u v e a = let same : u ≡ unit = cc (e) in subst (λ (it : LoadedUnit). IsAmong v it.mounts) same a
mounts_there (OfAlias of) u v e a = absurd (none-some _ (sym e))

mounts_back : (load : LoadMap) (u : Name) (load_is : NameLoad) (v : Name) → unit_in load u ≡ unit_part load_is → IsAmong v (mounts_in load_is)
    → (unit : LoadedUnit) × ((unit_in load u ≡ Some unit) × IsAmong v unit.mounts)
mounts_back load u (OfUnit unit) v e a = (unit, (e, a))
mounts_back load u (OfAlias of) v e a = absurd a

module _ (load : LoadMap) (sorted : IsTrue (is_sorted name_cmp load.names)) (i : ℕ) (below : i < count_of load) where
  unit_is : unit_in load (name_at load i) ≡ unit_part (entry_at load.names i).1
  unit_is = unit_at load sorted i ([], OfAlias []) below

  mount_for : (name : Name) (j : ℕ) (one : Dependency) → one.index ≡ j → name_at load j ≡ name → IsAmong name (mounts_in (entry_at load.names i).1) → (m : IsByMount load i name one) → IsTrue (is_loaded_by m.mount.status)
      → IsMountFor Manager load.names (name_at load i) name
  mount_for name j one on named a m loaded =
      let r = mounts_back load (name_at load i) (entry_at load.names i).1 name unit_is a in
      record {
        by_manager = refl;
        unit = r.0;
        unit_is = r.1.0;
        there = r.1.1;
        mount = m.mount;
        mount_is = m.mount_is;
        loaded = loaded;
        another = λ e. m.another (one_index (count_of load) (name_at load) name_cmp nat_list_cmp_total (load_indexing load sorted) one.index i m.below below (m.named ∙ sym e));
      }

  pub path_there : (one : Dependency) → ByMountsAt load i one → (one.index < count_of load) × IsByPath Manager load.names one.kind (name_at load i) (name_at load one.index)
  unfolding mount_for
  path_there one m = (m.by_mount.below, subst (λ (v : Name). IsByPath Manager load.names one.kind (name_at load i) v) (sym m.by_mount.named) (path_of Manager load.names (name_at load i) m.name one.kind (by (kind_by m.by_mount.mount.status one.index one m.by_mount.by_status))))
    where
      by : ByStatus m.by_mount.mount.status one.kind
          → ((one.kind ≡ After) × IsMountFor Manager load.names (name_at load i) m.name) ⊎ ((one.kind ≡ Requires) × NeedsMount Manager load.names (name_at load i) m.name)
      by (inl h) = inl (h.0, mount_for m.name one.index one refl m.by_mount.named m.there m.by_mount h.1)
      by (inr h) = inr (
        h.0,
        record {
          mount_for = mount_for m.name one.index one refl m.by_mount.named m.there m.by_mount (fragments_are_loaded m.by_mount.mount.status h.1);
          has_fragment = h.1;
        },
      )

  mounts_at : (v : Name) (dep : DepKind) (m : IsMountFor Manager load.names (name_at load i) v) → ByStatus m.mount.status dep → (j : ℕ) × (ByMountsAt load i (dependency dep j) × (name_at load j ≡ v))
  mounts_at v dep m s =
      let r = unit_index load v (m.mount, m.mount_is) in (
        r.0,
        (
          record {
            name = v;
            there = mounts_there (entry_at load.names i).1 m.unit v (sym m.unit_is ∙ unit_is) m.there;
            by_mount = record {
              below = r.1.0;
              named = r.1.1;
              another = λ e. m.another (ap (name_at load) (sym e) ∙ r.1.1);
              mount = m.mount;
              mount_is = m.mount_is;
              by_status = among_by m.mount.status dep r.0 s;
            };
          },
          r.1.1,
        ),
      )

  pub path_back : (dep : DepKind) (v : Name) → IsByPath Manager load.names dep (name_at load i) v → (j : ℕ) × (ByMountsAt load i (dependency dep j) × (name_at load j ≡ v))
  path_back dep v h = by (path_parts Manager load.names (name_at load i) v dep h)
    where
      by : ((dep ≡ After) × IsMountFor Manager load.names (name_at load i) v) ⊎ ((dep ≡ Requires) × NeedsMount Manager load.names (name_at load i) v)
          → (j : ℕ) × (ByMountsAt load i (dependency dep j) × (name_at load j ≡ v))
      by (inl k) = mounts_at v dep k.1 (inl (k.0, k.1.loaded))
      by (inr k) = mounts_at v dep k.1.mount_for (inr (k.0, k.1.has_fragment))

-- rows of what units name and of their mounts
pub given_named : (load : LoadMap) → IsTrue (is_sorted name_cmp load.names) → (own rows : List (List Dependency)) → AreDependencyAdjacency load.names own
    → AreMade (λ i row. HasAdded (get_or own i []) (ByMountsAt load i) row) (count_of load) rows → AreRowsBy load (IsGiven Manager load.names) rows
given_named load sorted own rows are made =
    rows_added load (NamesUnit load.names) (IsByPath Manager load.names) own rows (own_rows load sorted own are) (ByMountsAt load) made
    (path_there load sorted) (path_back load sorted)
