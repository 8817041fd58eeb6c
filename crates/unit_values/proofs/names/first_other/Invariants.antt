use Rattle.std.proofs.Common.{◌≡◌}
use Rattle.unit_values.proofs.Prelude.{drop, filter_map, first, map, other_named}
use Rattle.unit_values.proofs.names.first_other.Given as goal

-- none of the texts so far names another unit
abbrev pub invariant-loop-text : goal.invariant-loop-text
invariant-loop-text l =
    first (filter_map (other_named l.unit) (map (λ text. text.now) l.texts)) ≡ first (filter_map (other_named l.unit) (map (λ text. text.now) (drop l.text-index l.texts)))
