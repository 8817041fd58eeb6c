use Rattle.std.proofs.Common.{◌++◌, ◌≡◌}
use Rattle.unit_name.proofs.Prelude.{expand, length, List, option_map, ℕ}
use Rattle.unit_name.proofs.specifiers.expanded.Given as goal

-- what was written, followed by the expansion of the rest, is the expansion of the whole value
abbrev pub invariant-loop-byte : goal.invariant-loop-byte
invariant-loop-byte l = option_map (λ (v : List ℕ). l.expanded.items ++ v) (expand l.rest l.name) ≡ expand l.value l.name

abbrev pub decreases-loop-byte : goal.decreases-loop-byte
decreases-loop-byte l = length l.rest
