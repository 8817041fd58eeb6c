-- The kinds of dependencies.
-- Source: systemd.unit(5), "Mapping of unit properties to their inverses".
use Rattle.std.proofs.Common.{◌∷◌}
use Rattle.setting_rules.specs.Prelude.{[], Bool, bytes_eq, codes, false, Files, filter, find, flat_map, List, Manager, Option, Profile, true, ℕ}
use Rattle.setting_rules.specs.declared.kinds.DepKind.{DepKind, TheVariants.{After, Before, BindsTo, BoundBy, ConflictedBy, Conflicts, ConsistsOf, InSlice, OnFailure, OnFailureOf, PartOf, PropagatesReloadTo, ReloadPropagatedFrom, RequiredBy, Requires, Requisite, RequisiteOf, SliceOf, TriggeredBy, Triggers, UpheldBy, Upholds, WantedBy, Wants}}

-- the kind that states the same relation from the other unit
abbrev pub inverse : DepKind → DepKind
inverse Before = After
inverse After = Before
inverse Wants = WantedBy
inverse WantedBy = Wants
inverse Requires = RequiredBy
inverse RequiredBy = Requires
inverse Requisite = RequisiteOf
inverse RequisiteOf = Requisite
inverse BindsTo = BoundBy
inverse BoundBy = BindsTo
inverse PartOf = ConsistsOf
inverse ConsistsOf = PartOf
inverse Conflicts = ConflictedBy
inverse ConflictedBy = Conflicts
inverse OnFailure = OnFailureOf
inverse OnFailureOf = OnFailure
inverse PropagatesReloadTo = ReloadPropagatedFrom
inverse ReloadPropagatedFrom = PropagatesReloadTo
inverse Upholds = UpheldBy
inverse UpheldBy = Upholds
inverse Triggers = TriggeredBy
inverse TriggeredBy = Triggers
inverse InSlice = SliceOf
inverse SliceOf = InSlice

-- the first kind of each pair of a kind and its inverse, in order
abbrev pub row_kinds : List DepKind
row_kinds = Before ∷ Wants ∷ Requires ∷ Requisite ∷ BindsTo ∷ PartOf ∷ Conflicts ∷ OnFailure ∷ PropagatesReloadTo ∷ Upholds ∷ Triggers ∷ InSlice ∷ []

-- All kinds, pair by pair: a kind and then its inverse.
abbrev pub kinds : List DepKind
kinds = flat_map (λ kind. kind ∷ inverse kind ∷ []) row_kinds

-- Whether a key of `[Unit]` sets the kind by this profile: the first kind of each pair up to `PropagatesReloadTo`, and both
-- kinds of the first and of that pair; for a manager `Upholds` too.
abbrev pub is_settable : Profile → DepKind → Bool
is_settable profile Before = true
is_settable profile After = true
is_settable profile Wants = true
is_settable profile WantedBy = false
is_settable profile Requires = true
is_settable profile RequiredBy = false
is_settable profile Requisite = true
is_settable profile RequisiteOf = false
is_settable profile BindsTo = true
is_settable profile BoundBy = false
is_settable profile PartOf = true
is_settable profile ConsistsOf = false
is_settable profile Conflicts = true
is_settable profile ConflictedBy = false
is_settable profile OnFailure = true
is_settable profile OnFailureOf = false
is_settable profile PropagatesReloadTo = true
is_settable profile ReloadPropagatedFrom = true
is_settable Files Upholds = false
is_settable Manager Upholds = true
is_settable profile UpheldBy = false
is_settable profile Triggers = false
is_settable profile TriggeredBy = false
is_settable profile InSlice = false
is_settable profile SliceOf = false

-- the kinds that a key of `[Unit]` sets, in the order of all kinds
abbrev pub settable : Profile → List DepKind
settable profile = filter (is_settable profile) kinds

-- the kinds by which a unit may name another, in the order of all kinds: those that a key sets by some profile, and those
-- that a manager implies
abbrev pub naming_kinds : List DepKind
naming_kinds = Before ∷ After ∷ Wants ∷ Requires ∷ Requisite ∷ BindsTo ∷ PartOf ∷ Conflicts ∷ OnFailure ∷ PropagatesReloadTo ∷ ReloadPropagatedFrom ∷ Upholds ∷ Triggers ∷ TriggeredBy ∷ InSlice ∷ []

-- the name of a kind
abbrev pub word : DepKind → List ℕ
word Before = codes "Before"
word After = codes "After"
word Wants = codes "Wants"
word WantedBy = codes "WantedBy"
word Requires = codes "Requires"
word RequiredBy = codes "RequiredBy"
word Requisite = codes "Requisite"
word RequisiteOf = codes "RequisiteOf"
word BindsTo = codes "BindsTo"
word BoundBy = codes "BoundBy"
word PartOf = codes "PartOf"
word ConsistsOf = codes "ConsistsOf"
word Conflicts = codes "Conflicts"
word ConflictedBy = codes "ConflictedBy"
word OnFailure = codes "OnFailure"
word OnFailureOf = codes "OnFailureOf"
word PropagatesReloadTo = codes "PropagatesReloadTo"
word ReloadPropagatedFrom = codes "ReloadPropagatedFrom"
word Upholds = codes "Upholds"
word UpheldBy = codes "UpheldBy"
word Triggers = codes "Triggers"
word TriggeredBy = codes "TriggeredBy"
word InSlice = codes "InSlice"
word SliceOf = codes "SliceOf"

-- the kind that a key of `[Unit]` with this name sets
unfoldable pub settable_kind : Profile → List ℕ → Option DepKind
settable_kind profile key = find (λ kind. bytes_eq (word kind) key) (settable profile)
