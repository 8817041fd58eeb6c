-- Laws of dependencies that two units make, for a manager; and that by files there are none.
-- Source: systemd.unit(5), "RequiresMountsFor="; systemd.target(5), "Default Dependencies".
use Rattle.std.proofs.Common.{◌↔◌, ◌≡◌, ◌⊎◌}
use Rattle.inverse_deps.specs.Prelude.{After, Bad, BuiltIn, DepKind, Files, fragment_by, inl, inr, inverse, is_loaded_by, IsAmong, IsSome, IsTrue, kind, Loaded, LoadedUnit, LoadMap, Manager, Masked, Name, NotFound, refl, Requires, Some, Status, Target, unit_in, Wants}
use Rattle.inverse_deps.specs.{Dependencies.{Follows, HasDefaults, IsGivenBefore, MayFollow, NamesUnit}, Edges.{IsEdge}, UnitLaws.{by_files_alone}}

-- ---- by files

-- By files an edge leads from one unit to another exactly where one names the other, by the kind or by its inverse.
abbrev pub FilesNameAll : Type 0
FilesNameAll = (load : LoadMap) (dep : DepKind) (u v : Name) → load.viewer.profile ≡ Files → IsEdge load dep u v ↔ (NamesUnit load.names dep u v ⊎ NamesUnit load.names (inverse dep) v u)

-- ---- mounts

-- For a manager a unit comes after each other mount on the way to its paths that is loaded.
abbrev pub UnitsComeAfterMounts : Type 0
UnitsComeAfterMounts = (load : LoadMap) (u v : Name) (unit mount : LoadedUnit) → load.viewer.profile ≡ Manager → unit_in load u ≡ Some unit → unit_in load v ≡ Some mount
    → IsAmong v unit.mounts → IsTrue (is_loaded_by mount.status) → ¬ (u ≡ v) → IsEdge load After u v

-- And it requires each of them that has a file.
abbrev pub UnitsRequireMounts : Type 0
UnitsRequireMounts = (load : LoadMap) (u v : Name) (unit mount : LoadedUnit) → load.viewer.profile ≡ Manager → unit_in load u ≡ Some unit → unit_in load v ≡ Some mount
    → IsAmong v unit.mounts → IsSome (fragment_by mount.status) → ¬ (u ≡ v) → IsEdge load Requires u v

-- ---- targets

-- For a manager a target comes after a unit that it wants and that is no target, if both have default dependencies and
-- no given order says that it comes before it.
abbrev pub TargetsComeAfterWanted : Type 0
TargetsComeAfterWanted =
    (load : LoadMap) (t u : Name) → load.viewer.profile ≡ Manager → kind t ≡ Some Target → ¬ (kind u ≡ Some Target)
    → NamesUnit load.names Wants t u → HasDefaults load.names t → HasDefaults load.names u
    → ¬ IsGivenBefore load.viewer.profile load.names t u → IsEdge load After t u

-- No unit comes after one that a given order has after it, unless a given order says that too.
abbrev pub GivenOrdersStand : Type 0
GivenOrdersStand = (load : LoadMap) (t u : Name) → IsGivenBefore load.viewer.profile load.names t u → IsEdge load After t u → IsGivenBefore load.viewer.profile load.names u t

-- No unit comes after one without default dependencies, nor does one without them come after another, unless a given
-- order says so.
abbrev pub DefaultsAloneAreOrdered : Type 0
DefaultsAloneAreOrdered =
    (load : LoadMap) (t u : Name) → IsEdge load After t u → IsGivenBefore load.viewer.profile load.names u t
    ⊎ ((kind t ≡ Some Target) × HasDefaults load.names t × HasDefaults load.names u)

-- Of two targets that may each come after the other neither does.
abbrev pub TargetsFollowOneWay : Type 0
TargetsFollowOneWay =
    (load : LoadMap) (t u : Name) → MayFollow load.viewer.profile load.names t u
    → MayFollow load.viewer.profile load.names u t → ¬ IsEdge load After t u × ¬ IsEdge load After u t

-- ---- proofs

pub files_name_all : FilesNameAll
files_name_all load dep u v by_files = (to, from)
  where
    to : IsEdge load dep u v → NamesUnit load.names dep u v ⊎ NamesUnit load.names (inverse dep) v u
    to (inl d) = inl ((by_files_alone load.viewer.profile load.names dep u v by_files).0 d)
    to (inr d) = inr ((by_files_alone load.viewer.profile load.names (inverse dep) v u by_files).0 d)

    from : NamesUnit load.names dep u v ⊎ NamesUnit load.names (inverse dep) v u → IsEdge load dep u v
    from (inl n) = inl (inl (inl n))
    from (inr n) = inr (inl (inl n))

pub units_come_after_mounts : UnitsComeAfterMounts
units_come_after_mounts load u v unit mount by_manager unit_is mount_is there loaded another =
    inl (inl (inr (record { by_manager = by_manager; unit = unit; unit_is = unit_is; there = there; mount = mount; mount_is = mount_is; loaded = loaded; another = another })))

-- a unit with a fragment is loaded
pub fragments_are_loaded : (status : Status) → IsSome (fragment_by status) → IsTrue (is_loaded_by status)
fragments_are_loaded (Loaded place) h = refl
fragments_are_loaded BuiltIn h = refl
fragments_are_loaded NotFound h = h
fragments_are_loaded Masked h = h
fragments_are_loaded (Bad cause) h = h

pub units_require_mounts : UnitsRequireMounts
units_require_mounts load u v unit mount by_manager unit_is mount_is there has another =
    inl (inl (inr (record {
      mount_for = record {
        by_manager = by_manager;
        unit = unit;
        unit_is = unit_is;
        there = there;
        mount = mount;
        mount_is = mount_is;
        loaded = fragments_are_loaded mount.status has;
        another = another;
      };
      has_fragment = has;
    })))

pub targets_come_after_wanted : TargetsComeAfterWanted
targets_come_after_wanted load t u by_manager is_target other pulls target pulled free =
    inl (inr (record {
      may = record { by_manager = by_manager; is_target = is_target; dep = Wants; orders = refl; pulls = inl pulls; target = target; pulled = pulled; free = free };
      one_way = λ m. other m.is_target;
    }))

-- an order is given, or a target follows
given_or_follows : (load : LoadMap) (t u : Name) → IsEdge load After t u
    → IsGivenBefore load.viewer.profile load.names u t ⊎ Follows load.viewer.profile load.names t u
given_or_follows load t u (inl (inl g)) = inl (inr g)
given_or_follows load t u (inl (inr f)) = inr f
given_or_follows load t u (inr (inl g)) = inl (inl g)
given_or_follows load t u (inr (inr f)) = absurd f

pub given_orders_stand : GivenOrdersStand
given_orders_stand load t u before e = elim (given_or_follows load t u e) [ inl g ↦ g | inr f ↦ absurd (f.may.free before) ]

pub defaults_alone_are_ordered : DefaultsAloneAreOrdered
defaults_alone_are_ordered load t u e = elim (given_or_follows load t u e) [ inl g ↦ inl g | inr f ↦ inr (f.may.is_target, f.may.target, f.may.pulled) ]

one_way : (load : LoadMap) (t u : Name) → MayFollow load.viewer.profile load.names t u
    → MayFollow load.viewer.profile load.names u t → ¬ IsEdge load After t u
one_way load t u there back e = elim (given_or_follows load t u e) [ inl g ↦ back.free g | inr f ↦ f.one_way back ]

pub targets_follow_one_way : TargetsFollowOneWay
targets_follow_one_way load t u there back = (one_way load t u there back, one_way load u t back there)
