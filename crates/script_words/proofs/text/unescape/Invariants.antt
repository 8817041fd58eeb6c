use Rattle.script_words.proofs.{Prelude.{length}, TextLemmas.{IsReadTo}}
use Rattle.script_words.proofs.text.unescape.Given as goal

abbrev pub invariant-loop-at : goal.invariant-loop-at
invariant-loop-at l = IsReadTo l.text l.bytes.items l.rest

abbrev pub decreases-loop-at : goal.decreases-loop-at
decreases-loop-at l = length l.rest
