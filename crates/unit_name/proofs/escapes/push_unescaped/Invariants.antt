use Rattle.std.proofs.Common.{◌++◌, ◌≡◌}
use Rattle.unit_name.proofs.Prelude.{length, List, option_map, unescape, ℕ}
use Rattle.unit_name.proofs.escapes.push_unescaped.Given as goal

-- what was appended, followed by what the rest spells, is the old output followed by everything that the text spells
abbrev pub invariant-loop-rest : goal.invariant-loop-rest
invariant-loop-rest l = option_map (λ (v : List ℕ). l.out.items ++ v) (unescape l.rest) ≡ option_map (λ (v : List ℕ). l.initial.out.items ++ v) (unescape l.text)

abbrev pub decreases-loop-rest : goal.decreases-loop-rest
decreases-loop-rest l = length l.rest
