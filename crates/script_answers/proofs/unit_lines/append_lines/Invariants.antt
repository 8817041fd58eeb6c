use Rattle.std.proofs.Common.{◌++◌, ◌≡◌}
use Rattle.script_answers.proofs.Prelude.{flat_map, take}
use Rattle.script_answers.proofs.unit_lines.append_lines.Given as goal

abbrev pub invariant-loop-one : goal.invariant-loop-one
invariant-loop-one g l = l.out.items ≡ l.initial.out.items ++ flat_map g.L.UnitLine.line (take l.one-index l.all)
