use Rattle.std.proofs.Common.{◌<◌, ◌^◌, ◌≡◌}
use Rattle.script_words.proofs.Prelude.{digits_value, take}
use Rattle.script_words.proofs.numbers.value_of.Given as goal

abbrev pub invariant-loop-b : goal.invariant-loop-b
invariant-loop-b l = (l.value ≡ digits_value 10 (take l.b-index l.digits)) × (l.value < 10 ^ l.b-index)
