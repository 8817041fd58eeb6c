-- The index of a kind among those by which a unit may name another.
-- Source: this project's own.
use Rattle.setting_rules.specs.{declared.kinds.DepKind.{DepKind, TheVariants.{After, Before, BindsTo, Conflicts, InSlice, OnFailure, PartOf, PropagatesReloadTo, ReloadPropagatedFrom, Requires, Requisite, TriggeredBy, Triggers, Upholds, Wants}}, Prelude.{Bool, false, true, ℕ}}

-- the index of a kind among those; their number for any other kind
abbrev pub place : DepKind → ℕ
place Before = 0
place After = 1
place Wants = 2
place Requires = 3
place Requisite = 4
place BindsTo = 5
place PartOf = 6
place Conflicts = 7
place OnFailure = 8
place PropagatesReloadTo = 9
place ReloadPropagatedFrom = 10
place Upholds = 11
place Triggers = 12
place TriggeredBy = 13
place InSlice = 14
place other = 15

-- whether a unit may name another by this kind
abbrev pub is_naming : DepKind → Bool
is_naming Before = true
is_naming After = true
is_naming Wants = true
is_naming Requires = true
is_naming Requisite = true
is_naming BindsTo = true
is_naming PartOf = true
is_naming Conflicts = true
is_naming OnFailure = true
is_naming PropagatesReloadTo = true
is_naming ReloadPropagatedFrom = true
is_naming Upholds = true
is_naming Triggers = true
is_naming TriggeredBy = true
is_naming InSlice = true
is_naming other = false
