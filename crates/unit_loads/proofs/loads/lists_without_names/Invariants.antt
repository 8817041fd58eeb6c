use Rattle.std.proofs.Common.{◌≡◌}
use Rattle.unit_loads.proofs.Prelude.{[], map, naming_kinds, take}
use Rattle.unit_loads.proofs.loads.lists_without_names.Given as goal

abbrev pub invariant-loop-kind : goal.invariant-loop-kind
invariant-loop-kind l = (l.lists ≡ map (λ dep. record { kind = dep; names = [] }) (take l.kind-index l.kind-items)) × (l.kind-items ≡ naming_kinds)
