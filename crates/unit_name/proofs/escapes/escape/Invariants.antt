use Rattle.std.proofs.Common.{◌++◌, ◌≡◌}
use Rattle.unit_name.proofs.Prelude.{escaped_byte, flat_map, take}
use Rattle.unit_name.proofs.escapes.escape.Given as goal

abbrev pub invariant-loop-byte : goal.invariant-loop-byte
invariant-loop-byte l = l.escaped.items ≡ l.initial.escaped.items ++ flat_map escaped_byte (take l.byte-index l.rest)
