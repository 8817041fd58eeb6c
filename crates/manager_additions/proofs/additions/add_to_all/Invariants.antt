use Rattle.std.proofs.Common.{◌≡◌}
use Rattle.manager_additions.proofs.Changed.{changed_to}
use Rattle.manager_additions.specs.Additions.{with_names}
use Rattle.manager_additions.proofs.additions.add_to_all.Given as goal

abbrev pub invariant-loop-list : goal.invariant-loop-list
invariant-loop-list l = l.lists ≡ changed_to (with_names l.implied) l.initial.lists l.list-index
