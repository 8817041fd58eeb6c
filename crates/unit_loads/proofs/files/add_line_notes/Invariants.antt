use Rattle.std.proofs.Common.{◌++◌, ◌≡◌}
use Rattle.unit_loads.proofs.Prelude.{File, map, take}
use Rattle.unit_loads.proofs.files.add_line_notes.Given as goal

abbrev pub invariant-loop-line : goal.invariant-loop-line
invariant-loop-line l = l.notes ≡ l.initial.notes ++ map (File l.place) (take l.line-index l.lines)
