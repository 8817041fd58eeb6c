use Rattle.std.proofs.Common.{◌++◌, ◌≡◌}
use Rattle.implied_names.proofs.Prelude.{by_kinds, filter_map, flat_map, map, named}
use Rattle.implied_names.proofs.implied.add_texts.Given as goal

abbrev pub invariant-loop-text : goal.invariant-loop-text
invariant-loop-text l = l.names.items ≡ l.initial.names.items ++ flat_map (by_kinds l.kinds) (filter_map (named l.facts.unit) (map (λ text. text.items) l.yielded))
