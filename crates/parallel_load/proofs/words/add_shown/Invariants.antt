use Rattle.std.proofs.Common.{◌++◌, ◌≡◌}
use Rattle.parallel_load.proofs.Prelude.{filter_map, length, shown_name, shown_names}
use Rattle.parallel_load.proofs.words.add_shown.Given as goal

abbrev pub invariant-loop-placed : goal.invariant-loop-placed
invariant-loop-placed l = l.names.items ++ filter_map shown_name l.entries ≡ l.initial.names.items ++ shown_names l.view l.level

abbrev pub decreases-loop-placed : goal.decreases-loop-placed
decreases-loop-placed l = length l.entries
