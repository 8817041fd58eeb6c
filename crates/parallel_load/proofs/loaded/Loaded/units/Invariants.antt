use Rattle.std.proofs.Common.{◌≡◌}
use Rattle.parallel_load.proofs.Prelude.{filter_map, map, take, unit_part}
use Rattle.parallel_load.proofs.loaded.Loaded.units.Given as goal

abbrev pub invariant-loop-load : goal.invariant-loop-load
invariant-loop-load l = map (λ u. u.now) l.units.items ≡ filter_map (λ p. unit_part p.1) (take l.load-index l.load-items)
