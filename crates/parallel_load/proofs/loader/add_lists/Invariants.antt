use Rattle.std.proofs.Common.{◌++◌, ◌≡◌}
use Rattle.parallel_load.proofs.Prelude.{names_in_lists, take}
use Rattle.parallel_load.proofs.loader.add_lists.Given as goal

abbrev pub invariant-loop-list : goal.invariant-loop-list
invariant-loop-list l = l.names.items ≡ l.initial.names.items ++ names_in_lists (take l.list-index l.lists)
