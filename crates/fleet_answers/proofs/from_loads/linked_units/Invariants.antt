use Rattle.std.proofs.Common.{◌≡◌}
use Rattle.fleet_answers.proofs.Prelude.{All, filter_map, IsUnitWithEdges, LinkedUnit, map, Name, take, unit_part}
use Rattle.fleet_answers.proofs.from_loads.linked_units.Given as goal

-- the units of the names so far, each with its edges
abbrev pub invariant-loop-index : goal.invariant-loop-index
invariant-loop-index l =
    (map (λ (one : LinkedUnit). one.unit) l.all.items ≡ filter_map (λ p. unit_part p.1) (take l.index l.names))
    × All (λ (one : LinkedUnit). (main : Name) × IsUnitWithEdges l.loaded main one) l.all.items
