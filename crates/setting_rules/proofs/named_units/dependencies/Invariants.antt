use Rattle.std.proofs.Common.{◌≡◌}
use Rattle.setting_rules.proofs.Prelude.{flat_map, list_for, map, naming_kinds, notes_for, take}
use Rattle.setting_rules.proofs.named_units.dependencies.Given as goal

abbrev pub invariant-loop-kind : goal.invariant-loop-kind
invariant-loop-kind l =
    (l.all.lists ≡ map (list_for l.settings.profile l.settings.map l.unit) (take l.kind-index l.kinds)) × (l.all.notes ≡ flat_map (notes_for l.settings.profile l.settings.map l.unit) (take l.kind-index l.kinds)) × (l.kinds ≡ naming_kinds)
