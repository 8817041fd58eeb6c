use Rattle.std.proofs.Common.{◌≡◌}
use Rattle.unit_name.proofs.Prelude.{is_some, length, unescape}
use Rattle.unit_name.proofs.escapes.spells_bytes.Given as goal

-- the rest is valid exactly if the whole text is
abbrev pub invariant-loop-rest : goal.invariant-loop-rest
invariant-loop-rest l = is_some (unescape l.rest) ≡ is_some (unescape l.text)

abbrev pub decreases-loop-rest : goal.decreases-loop-rest
decreases-loop-rest l = length l.rest
