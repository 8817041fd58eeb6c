use Rattle.std.proofs.Common.{◌++◌, ◌≡◌}
use Rattle.parallel_load.proofs.Prelude.{filter_map, take, whole_name}
use Rattle.parallel_load.proofs.sources.add_visible.Given as goal

abbrev pub invariant-loop-name : goal.invariant-loop-name
invariant-loop-name l = l.names.items ≡ l.initial.names.items ++ filter_map (λ p. whole_name p.0) (take l.name-index l.name-items)
