use Rattle.std.proofs.Common.{◌++◌, ◌≡◌}
use Rattle.std.specs.List.{flat_map}
use Rattle.manager_additions.proofs.Prelude.{take}
use Rattle.manager_additions.specs.Additions.{name_for}
use Rattle.manager_additions.proofs.additions.add_of_kind.Given as goal

abbrev pub invariant-loop-entry : goal.invariant-loop-entry
invariant-loop-entry l = l.names ≡ l.initial.names ++ flat_map (name_for l.kind) (take l.entry-index l.implied)
