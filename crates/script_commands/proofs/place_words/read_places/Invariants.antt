use Rattle.std.proofs.Common.{◌≡◌}
use Rattle.script_commands.proofs.Prelude.{length, places_of, values_then}
use Rattle.script_commands.proofs.place_words.read_places.Given as goal

abbrev pub invariant-loop-text : goal.invariant-loop-text
invariant-loop-text l = places_of l.fn.texts ≡ values_then l.places.items (places_of l.texts)

abbrev pub decreases-loop-text : goal.decreases-loop-text
decreases-loop-text l = length l.texts
