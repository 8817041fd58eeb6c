use Rattle.std.proofs.Common.{◌≡◌}
use Rattle.parallel_load.proofs.Prelude.{map, with_own_link_targets}
use Rattle.parallel_load.proofs.words.with_words.Given as goal

abbrev pub invariant-loop-name : goal.invariant-loop-name
invariant-loop-name l = l.names.items ≡ map (with_own_link_targets l.view) l.yielded
