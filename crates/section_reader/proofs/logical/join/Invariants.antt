use Rattle.std.proofs.Common.{◌++◌, ◌≡◌, ◌≤◌}
use Rattle.section_reader.proofs.Prelude.{going_on, length, lines_following, spaced}
use Rattle.section_reader.proofs.logical.join.Given as goal

-- the text so far, followed by the continuation in the remaining lines, is the whole text
abbrev pub invariant-loop-line : goal.invariant-loop-line
invariant-loop-line l =
    (l.text.items ++ going_on l.lines ≡ spaced l.first ++ going_on l.initial.lines) × (lines_following l.lines ≡ lines_following l.initial.lines) × (length l.lines ≤ length l.initial.lines)

abbrev pub decreases-loop-line : goal.decreases-loop-line
decreases-loop-line l = length l.lines
