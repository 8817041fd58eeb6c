use Rattle.std.proofs.Common.{◌++◌, ◌≡◌}
use Rattle.script_answers.proofs.Prelude.{flat_map, note_line, take}
use Rattle.script_answers.proofs.unit_lines.append_notes.Given as goal

abbrev pub invariant-loop-note : goal.invariant-loop-note
invariant-loop-note l = l.out.items ≡ l.initial.out.items ++ flat_map note_line (take l.note-index l.notes)
