use Rattle.std.proofs.Common.{◌++◌, ◌≡◌}
use Rattle.unit_loads.proofs.Prelude.{map, Setting}
use Rattle.unit_loads.proofs.effective.add_setting_notes.Given as goal

abbrev pub invariant-loop-note : goal.invariant-loop-note
invariant-loop-note l = l.notes ≡ l.initial.notes ++ map Setting l.yielded
