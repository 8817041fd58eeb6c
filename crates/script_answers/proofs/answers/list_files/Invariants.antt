use Rattle.std.proofs.Common.{◌++◌, ◌≡◌}
use Rattle.script_answers.proofs.Prelude.{entry_line, flat_map, length}
use Rattle.std.specs.FinMap as finmap
use Rattle.script_answers.proofs.answers.list_files.Given as goal

abbrev pub invariant-loop-placed : goal.invariant-loop-placed
invariant-loop-placed l = l.out.items ++ flat_map entry_line l.entries ≡ flat_map entry_line (finmap.entries l.store)

abbrev pub decreases-loop-placed : goal.decreases-loop-placed
decreases-loop-placed l = length l.entries
