use Rattle.std.proofs.Common.{◌++◌, ◌≡◌}
use Rattle.implied_names.proofs.Prelude.{flat_map, given_by, take}
use Rattle.implied_names.proofs.implied.add_table.Given as goal

abbrev pub invariant-loop-role : goal.invariant-loop-role
invariant-loop-role l = l.names.items ≡ l.initial.names.items ++ flat_map (given_by l.facts) (take l.role-index l.table)
