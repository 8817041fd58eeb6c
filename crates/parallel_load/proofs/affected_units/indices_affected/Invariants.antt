use Rattle.std.proofs.Common.{◌<◌}
use Rattle.parallel_load.proofs.Prelude.{All, AreAffected, length, take}
use Rattle.parallel_load.proofs.affected_units.indices_affected.Given as goal

abbrev pub invariant-loop-part : goal.invariant-loop-part
invariant-loop-part l = All (λ i. i < length l.loaded.names) l.affected.items × AreAffected (take l.part-index l.parts) l.loaded.names l.affected.items
