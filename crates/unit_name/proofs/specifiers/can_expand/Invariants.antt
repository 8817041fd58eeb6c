use Rattle.std.proofs.Common.{◌≡◌}
use Rattle.unit_name.proofs.Prelude.{expand, is_some, length}
use Rattle.unit_name.proofs.specifiers.can_expand.Given as goal

-- the rest can be expanded exactly if the whole value can
abbrev pub invariant-loop-byte : goal.invariant-loop-byte
invariant-loop-byte l = is_some (expand l.rest l.name) ≡ is_some (expand l.value l.name)

abbrev pub decreases-loop-byte : goal.decreases-loop-byte
decreases-loop-byte l = length l.rest
