use Rattle.std.proofs.Common.{◌++◌, ◌≡◌}
use Rattle.section_reader.proofs.Prelude.{assignments_of, items_from, length, logical_of, notes_from, notes_of}
use Rattle.section_reader.proofs.reader.read.Given as goal

-- what was read, followed by what the remaining lines give, is what the file gives
abbrev pub invariant-loop-line : goal.invariant-loop-line
invariant-loop-line l =
    (l.reader.sections.items ++ items_from l.reader.place (logical_of l.lines) ≡ assignments_of l.bytes) × (l.reader.sections.notes ++ notes_from l.reader.place (logical_of l.lines) ≡ notes_of l.bytes)

abbrev pub decreases-loop-line : goal.decreases-loop-line
decreases-loop-line l = length l.lines
