use Rattle.std.proofs.Common.{◌≡◌}
use Rattle.unit_values.proofs.Prelude.{map, take, values_in}
use Rattle.unit_values.proofs.facts.values_in.Given as goal

abbrev pub invariant-loop-row : goal.invariant-loop-row
invariant-loop-row l = map (λ value. value.now) l.values.items ≡ values_in (take l.row-index l.rows) l.section l.key
