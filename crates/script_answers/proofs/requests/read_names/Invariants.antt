use Rattle.std.proofs.Common.{◌≡◌}
use Rattle.script_answers.proofs.Prelude.{length, names_in, values_then}
use Rattle.script_answers.proofs.requests.read_names.Given as goal

abbrev pub invariant-loop-word : goal.invariant-loop-word
invariant-loop-word l = names_in l.fn.words ≡ values_then l.names (names_in l.words)

abbrev pub decreases-loop-word : goal.decreases-loop-word
decreases-loop-word l = length l.words
