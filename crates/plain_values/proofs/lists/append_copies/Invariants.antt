use Rattle.std.proofs.Common.{◌++◌, ◌≡◌}
use Rattle.plain_values.proofs.Prelude.{take}
use Rattle.plain_values.proofs.lists.append_copies.Given as goal

abbrev pub invariant-loop-element : goal.invariant-loop-element
invariant-loop-element g l = l.list.items ≡ l.initial.list.items ++ take l.element-index l.elements
