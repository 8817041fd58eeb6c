-- What units imply, in concrete words.
-- Source: systemd.service(5), "Default Dependencies"; systemd.timer(5), systemd.path(5), systemd.socket(5).
use Rattle.std.proofs.Common.{if◌then◌else◌, ◌++◌, ◌||◌, ◌∷◌, ◌≡◌, ◌⊎◌}
use Rattle.implied_names.specs.Prelude.{[], After, AllByRecursion, ap, append-nil, argument, Before, BindsTo, Bool, codes, cond, cons_option, Conflicts, DepKind, false, filter, filter_map, flat_map, for_unit, inl, inr, InSlice, Instance, is_name, IsAmong, IsAmong-append_cases, IsAmong-append_left, IsAmong-append_right, IsName, kind, List, Name, named_at, naming_kinds, None, Option, Plain, refl, Requires, same_Some, Service, shape, Shape, Some, subst, sym, Template, Text, TriggeredBy, Triggers, true, Wants, ◌∙◌}
use Rattle.unit_values.specs.{BuiltIn.{is_slice, perpetual_units}, Facts.{Facts, last_of, values_of}, Defaults.{has_defaults}, Named.{named, names_unit, or_sister}}
use Rattle.implied_names.specs.{declared.{roles.Role.{Role}, sources.Source.{Source}, tables.Ways.{Ways}}, Implied.{by_kinds, default_names, given_by, implied_names}, Roles.{has_role, is_path_unit, is_service, is_socket, is_target, is_timer}, Sources.{activated, names_from, served_service, texts_from}, Tables.{default_table, implied_table, kinds_of}}
use Rattle.unit_name.specs.{NameLaws.{instance_has_parts}, Names.{is_name_byte, kind_of, name_of}}
use Rattle.implied_names.specs.declared.roles.Role.TheVariants as role
use Rattle.implied_names.specs.declared.sources.Source.TheVariants as source
use Rattle.implied_names.specs.declared.tables.Ways.TheVariants as by

-- the unit implies the name by the kind
abbrev pub Implies : Facts → DepKind → Name → Type 0
Implies f dep name = IsAmong {X = DepKind × Name} (dep, name) (implied_names f)

-- what services with default dependencies wait for, and stop at
pub record WaitsForTheSystem (f : Facts) : Type 0 where
  pub requires_it : Implies f Requires (codes "sysinit.target")
  pub after_it : Implies f After (codes "sysinit.target")
  pub after_basic : Implies f After (codes "basic.target")
  pub before_shutdown : Implies f Before (codes "shutdown.target")
  pub stops_at_shutdown : Implies f Conflicts (codes "shutdown.target")

-- Services with default dependencies do.
abbrev pub ServicesWaitForTheSystem : Type 0
ServicesWaitForTheSystem = (f : Facts) → kind f.unit ≡ Some Service → has_defaults f ≡ true → WaitsForTheSystem f

-- Without default dependencies only the first table counts.
abbrev pub NothingByDefault : Type 0
NothingByDefault = (f : Facts) → has_defaults f ≡ false → implied_names f ≡ flat_map (given_by f) implied_table

-- A timer or a path comes before the unit that it triggers.
abbrev pub ActivatorsComeFirst : Type 0
ActivatorsComeFirst = (f : Facts) (name : Name) → has_role f role.Activator ≡ true → named f.unit (activated f) ≡ Some name → Implies f Before name × Implies f Triggers name

-- A socket that starts one service for all connections triggers the last one that is set.
abbrev pub SetServicesAreTriggered : Type 0
SetServicesAreTriggered = (f : Facts) (text : Text) (name : Name) → has_role f role.LastingSocket ≡ true → last_of (filter (names_unit Service) (values_of f (codes "Service"))) ≡ Some text
    → named f.unit text ≡ Some name → Implies f Before name × Implies f Triggers name

-- A unit implies others only by kinds by which a unit may name another.
abbrev pub ImpliedAreNaming : Type 0
ImpliedAreNaming = (f : Facts) (dep : DepKind) (name : Name) → Implies f dep name → IsAmong dep naming_kinds

-- What it implies are unit names.
abbrev pub ImpliedAreNames : Type 0
ImpliedAreNames = (f : Facts) (dep : DepKind) (name : Name) → Implies f dep name → IsName name

-- So are the perpetual units.
abbrev pub PerpetualUnitsAreNames : Type 0
PerpetualUnitsAreNames = (unit : Name) → IsAmong unit perpetual_units → IsName unit

-- ---- members of the tables

flat_among : {X Y : Type 0} (g : X → List Y) (xs : List X) (x : X) (y : Y) → IsAmong x xs → IsAmong y (g x) → IsAmong y (flat_map g xs)
flat_among g [] x y h k = absurd h
flat_among g (z ∷ xs) x y (inl e) k = IsAmong-append_left y (g z) (flat_map g xs) (subst (λ w. IsAmong y (g w)) (sym e) k)
flat_among g (z ∷ xs) x y (inr h) k = IsAmong-append_right y (g z) (flat_map g xs) (flat_among g xs x y h k)

kinds_among : (kinds : List DepKind) (dep : DepKind) (name : Name) → IsAmong dep kinds → IsAmong {X = DepKind × Name} (dep, name) (by_kinds kinds name)
kinds_among [] dep name h = absurd h
kinds_among (k ∷ kinds) dep name (inl e) = inl (ap (λ d. let p : DepKind × Name = (d, name) in p) e)
kinds_among (k ∷ kinds) dep name (inr h) = inr (kinds_among kinds dep name h)

module _ (f : Facts) where
  entry_gives : (r : Role) (way : Ways) (s : Source) (dep : DepKind) (name : Name) → has_role f r ≡ true
      → IsAmong dep (kinds_of way) → IsAmong name (names_from f s)
      → IsAmong {X = DepKind × Name} (dep, name) (given_by f (r, way, s))
  entry_gives r way s dep name has dep_there name_there =
      subst (λ b. IsAmong {X = DepKind × Name} (dep, name) (cond b (flat_map (by_kinds (kinds_of way)) (names_from f s)) [])) (sym has)
      (flat_among (by_kinds (kinds_of way)) (names_from f s) name (dep, name) name_there (kinds_among (kinds_of way) dep name dep_there))

  by_table : (entry : Role × Ways × Source) (dep : DepKind) (name : Name) → IsAmong {X = Role × Ways × Source} entry implied_table → IsAmong {X = DepKind × Name} (dep, name) (given_by f entry) → Implies f dep name
  unfolding implied_names
  by_table entry dep name there given = IsAmong-append_left {X = DepKind × Name} (dep, name) (flat_map (given_by f) implied_table) (default_names f) (flat_among (given_by f) implied_table entry (dep, name) there given)

  by_default : (entry : Role × Ways × Source) (dep : DepKind) (name : Name) → has_defaults f ≡ true → IsAmong {X = Role × Ways × Source} entry default_table → IsAmong {X = DepKind × Name} (dep, name) (given_by f entry) → Implies f dep name
  unfolding implied_names
  by_default entry dep name asked there given =
      IsAmong-append_right {X = DepKind × Name} (dep, name) (flat_map (given_by f) implied_table) (default_names f)
      (subst (λ b. IsAmong {X = DepKind × Name} (dep, name) (cond b (flat_map (given_by f) default_table) [])) (sym asked) (flat_among (given_by f) default_table entry (dep, name) there given))

  -- targets have the names that they are given
  sysinit : named f.unit (codes "sysinit.target") ≡ Some (codes "sysinit.target")
  unfolding name_of kind_of is_name_byte
  sysinit = refl

  basic : named f.unit (codes "basic.target") ≡ Some (codes "basic.target")
  unfolding name_of kind_of is_name_byte
  basic = refl

  shutdown : named f.unit (codes "shutdown.target") ≡ Some (codes "shutdown.target")
  unfolding name_of kind_of is_name_byte
  shutdown = refl

  -- the one name that a text gives
  one_name : (text : Text) (name : Name) → named f.unit text ≡ Some name → IsAmong name (filter_map (named f.unit) (text ∷ []))
  one_name text name h = subst (λ o. IsAmong name (cons_option o [])) (sym h) (inl refl)

pub services_wait_for_the_system : ServicesWaitForTheSystem
services_wait_for_the_system f of_service asked = record {
  requires_it = by_default f (role.Late, by.RequiresAfter, source.Sysinit) Requires (codes "sysinit.target") asked (inl refl) (entry_gives f role.Late by.RequiresAfter source.Sysinit Requires _ late (inl refl) (one_name f _ _ (sysinit f)));
  after_it = by_default f (role.Late, by.RequiresAfter, source.Sysinit) After (codes "sysinit.target") asked (inl refl) (entry_gives f role.Late by.RequiresAfter source.Sysinit After _ late (inr (inl refl)) (one_name f _ _ (sysinit f)));
  after_basic = by_default f (role.Service, by.After, source.Basic) After (codes "basic.target") asked (inr (inr (inl refl))) (entry_gives f role.Service by.After source.Basic After _ service (inl refl) (one_name f _ _ (basic f)));
  before_shutdown = by_default f (role.Stopped, by.BeforeConflicts, source.Shutdown) Before (codes "shutdown.target") asked (inr (inl refl)) (entry_gives f role.Stopped by.BeforeConflicts source.Shutdown Before _ stopped (inl refl) (one_name f _ _ (shutdown f)));
  stops_at_shutdown = by_default f (role.Stopped, by.BeforeConflicts, source.Shutdown) Conflicts (codes "shutdown.target") asked (inr (inl refl)) (entry_gives f role.Stopped by.BeforeConflicts source.Shutdown Conflicts _ stopped (inr (inl refl)) (one_name f _ _ (shutdown f)));
}
  where
    service : is_service (kind f.unit) ≡ true
    service = ap is_service of_service

    late : has_role f role.Late ≡ true
    late = ap (λ k. is_service k || is_socket k || is_path_unit k || is_timer k) of_service

    stopped : has_role f role.Stopped ≡ true
    stopped = ap (λ k. is_service k || is_socket k || is_path_unit k || is_timer k || is_target k || is_slice k) of_service

pub nothing_by_default : NothingByDefault
unfolding implied_names
nothing_by_default f none = ap (λ b. flat_map (given_by f) implied_table ++ cond b (flat_map (given_by f) default_table) []) none ∙ append-nil (flat_map (given_by f) implied_table)

pub activators_come_first : ActivatorsComeFirst
activators_come_first f name of_role is = (gives Before (inl refl), gives Triggers (inr (inl refl)))
  where
    gives : (dep : DepKind) → IsAmong dep (kinds_of by.BeforeTriggers) → Implies f dep name
    gives dep there = by_table f (role.Activator, by.BeforeTriggers, source.Activated) dep name (inr (inr (inr (inr (inr (inr (inr (inr (inr (inr (inr (inl refl))))))))))))
        (entry_gives f role.Activator by.BeforeTriggers source.Activated dep name of_role there (one_name f (activated f) name is))

pub set_services_are_triggered : SetServicesAreTriggered
set_services_are_triggered f text name of_role set is = (gives Before (inl refl), gives Triggers (inr (inl refl)))
  where
    served : served_service f ≡ text
    served = ap (or_sister (codes "service") f.unit) set

    gives : (dep : DepKind) → IsAmong dep (kinds_of by.BeforeTriggers) → Implies f dep name
    gives dep there = by_table f (role.LastingSocket, by.BeforeTriggers, source.ServedService) dep name (inr (inr (inr (inr (inr (inr (inr (inr (inr (inl refl))))))))))
        (entry_gives f role.LastingSocket by.BeforeTriggers source.ServedService dep name of_role there (one_name f (served_service f) name (ap (named f.unit) served ∙ is)))

-- ---- the kinds of implied names

-- a unit may name another by each of these kinds
abbrev AreNaming : List DepKind → Type 0
AreNaming kinds = AllByRecursion (λ kind. IsAmong kind naming_kinds) kinds

one_of : (kinds : List DepKind) (dep : DepKind) → AreNaming kinds → IsAmong dep kinds → IsAmong dep naming_kinds
one_of [] dep a h = absurd h
one_of (k ∷ kinds) dep a (inl e) = subst (λ (d : DepKind). IsAmong d naming_kinds) e a.0
one_of (k ∷ kinds) dep a (inr h) = one_of kinds dep a.1 h

before : IsAmong Before naming_kinds
before = inl refl

after : IsAmong After naming_kinds
after = inr (inl refl)

wants : IsAmong Wants naming_kinds
wants = inr (inr (inl refl))

requires : IsAmong Requires naming_kinds
requires = inr (inr (inr (inl refl)))

binds_to : IsAmong BindsTo naming_kinds
binds_to = inr (inr (inr (inr (inr (inl refl)))))

conflicts : IsAmong Conflicts naming_kinds
conflicts = inr (inr (inr (inr (inr (inr (inr (inl refl)))))))

triggers : IsAmong Triggers naming_kinds
triggers = inr (inr (inr (inr (inr (inr (inr (inr (inr (inr (inr (inr (inl refl))))))))))))

triggered_by : IsAmong TriggeredBy naming_kinds
triggered_by = inr (inr (inr (inr (inr (inr (inr (inr (inr (inr (inr (inr (inr (inl refl)))))))))))))

in_slice : IsAmong InSlice naming_kinds
in_slice = inr (inr (inr (inr (inr (inr (inr (inr (inr (inr (inr (inr (inr (inr (inl refl))))))))))))))

ways_are_naming : (way : Ways) → AreNaming (kinds_of way)
ways_are_naming by.After = (after, tt)
ways_are_naming by.Before = (before, tt)
ways_are_naming by.Requires = (requires, tt)
ways_are_naming by.BindsTo = (binds_to, tt)
ways_are_naming by.RequiresAfter = (requires, (after, tt))
ways_are_naming by.RequiresAfterInSlice = (requires, (after, (in_slice, tt)))
ways_are_naming by.AfterWants = (after, (wants, tt))
ways_are_naming by.WantsAfterTriggeredBy = (wants, (after, (triggered_by, tt)))
ways_are_naming by.BeforeTriggers = (before, (triggers, tt))
ways_are_naming by.AfterBindsTo = (after, (binds_to, tt))
ways_are_naming by.BeforeWants = (before, (wants, tt))
ways_are_naming by.BeforeConflicts = (before, (conflicts, tt))

-- ---- what a text names is a unit's name

meant_name : (x : Shape) (unit text name : Name) → IsName text → named_at x unit text ≡ Some name → IsName name
meant_name Plain unit text name good e = subst IsName (same_Some _ _ e) good
meant_name Template unit text name good e = (instance_has_parts text (argument unit) name good e).2.name
meant_name Instance unit text name good e = subst IsName (same_Some _ _ e) good

named_name : (unit text name : Name) (b : Bool) → is_name text ≡ b → (if b then for_unit unit text else None) ≡ Some name → IsName name
named_name unit text name true good e = meant_name (shape text) unit text name good e
named_name unit text name false bad e = cc (e)

named_are : (unit : Name) (texts : List Text) (name : Name) → IsAmong name (filter_map (named unit) texts) → IsName name
named_are unit [] name h = absurd h
named_are unit (t ∷ texts) name h = which (named_are unit texts name) (named unit t) refl h
  where
    which : (IsAmong name (filter_map (named unit) texts) → IsName name) → (o : Option Name) → named unit t ≡ o
        → IsAmong name (cons_option o (filter_map (named unit) texts)) → IsName name
    which more None e h = more h
    which more (Some x) e (inl same) = subst IsName same (named_name unit t x (is_name t) refl e)
    which more (Some x) e (inr h) = more h

-- ---- members of what the tables give

-- a member of what is made of the members of a list
record HasSource {X Y : Type 0} (g : X → List Y) (xs : List X) (y : Y) : Type 0 where
  source : X
  there : IsAmong source xs
  makes : IsAmong y (g source)

among_flat : {X Y : Type 0} (g : X → List Y) (xs : List X) (y : Y) → IsAmong y (flat_map g xs) → HasSource g xs y
among_flat g [] y h = absurd h
among_flat g (x ∷ xs) y h = which (among_flat g xs y) (IsAmong-append_cases y (g x) (flat_map g xs) h)
  where
    which : (IsAmong y (flat_map g xs) → HasSource g xs y) → IsAmong y (g x) ⊎ IsAmong y (flat_map g xs) → HasSource g (x ∷ xs) y
    which more (inl a) = record { source = x; there = inl refl; makes = a }
    which more (inr b) = let rest = more b in record { source = rest.source; there = inr rest.there; makes = rest.makes }

among_kinds : (kinds : List DepKind) (name : Name) (dep : DepKind) (v : Name) → IsAmong {X = DepKind × Name} (dep, v) (by_kinds kinds name) → IsAmong dep kinds × (name ≡ v)
among_kinds [] name dep v h = absurd h
among_kinds (k ∷ kinds) name dep v (inl e) = (inl (ap (λ (p : DepKind × Name). p.0) e), ap (λ (p : DepKind × Name). p.1) e)
among_kinds (k ∷ kinds) name dep v (inr h) = let rest = among_kinds kinds name dep v h in (inr rest.0, rest.1)

module _ (f : Facts) (dep : DepKind) (v : Name) where
  -- by a kind by which a unit may name another, a unit's name
  abbrev IsFit : Type 0
  IsFit = IsAmong dep naming_kinds × IsName v

  given_fit : (entry : Role × Ways × Source) → IsAmong {X = DepKind × Name} (dep, v) (given_by f entry) → IsFit
  given_fit entry h = which (has_role f entry.0) h
    where
      which : (b : Bool) → IsAmong {X = DepKind × Name} (dep, v) (if b then flat_map (by_kinds (kinds_of entry.1)) (names_from f entry.2) else []) → IsFit
      which true h =
          let from = among_flat (by_kinds (kinds_of entry.1)) (names_from f entry.2) (dep, v) h in
          let kind = among_kinds (kinds_of entry.1) from.source dep v from.makes in
          (one_of (kinds_of entry.1) dep (ways_are_naming entry.1) kind.0, subst IsName kind.1 (named_are f.unit (texts_from f entry.2) from.source from.there))
      which false h = absurd h

  tables_fit : (table : List (Role × Ways × Source)) → IsAmong {X = DepKind × Name} (dep, v) (flat_map (given_by f) table) → IsFit
  tables_fit table h = let from = among_flat (given_by f) table (dep, v) h in given_fit from.source from.makes

  defaults_fit : (b : Bool) → IsAmong {X = DepKind × Name} (dep, v) (if b then flat_map (given_by f) default_table else []) → IsFit
  defaults_fit true h = tables_fit default_table h
  defaults_fit false h = absurd h

  implied_fit : IsAmong {X = DepKind × Name} (dep, v) (implied_names f) → IsFit
  unfolding implied_names
  implied_fit h = which (IsAmong-append_cases {X = DepKind × Name} (dep, v) (flat_map (given_by f) implied_table) (default_names f) h)
    where
      which : IsAmong {X = DepKind × Name} (dep, v) (flat_map (given_by f) implied_table) ⊎ IsAmong {X = DepKind × Name} (dep, v) (default_names f) → IsFit
      which (inl a) = tables_fit implied_table a
      which (inr b) = defaults_fit (has_defaults f) b

pub implied_are_naming : ImpliedAreNaming
implied_are_naming f dep v h = (implied_fit f dep v h).0

pub implied_are_names : ImpliedAreNames
implied_are_names f dep v h = (implied_fit f dep v h).1

pub perpetual_units_are_names : PerpetualUnitsAreNames
unfolding name_of kind_of is_name_byte
perpetual_units_are_names unit (inl e) = subst IsName e refl
perpetual_units_are_names unit (inr (inl e)) = subst IsName e refl
perpetual_units_are_names unit (inr (inr (inl e))) = subst IsName e refl
perpetual_units_are_names unit (inr (inr (inr h))) = absurd h
