use Rattle.std.proofs.Common.{◌≡◌}
use Rattle.unit_values.proofs.Prelude.{filter, last_of, map, names_unit, option_copied, take}
use Rattle.unit_values.proofs.names.last_named.Given as goal

abbrev pub invariant-loop-text : goal.invariant-loop-text
invariant-loop-text l = option_copied l.last ≡ last_of (filter (names_unit l.own) (map (λ text. text.now) (take l.text-index l.texts)))
