use Rattle.std.proofs.Common.{◌++◌, ◌≡◌}
use Rattle.implied_names.proofs.Prelude.{by_kinds, take}
use Rattle.implied_names.proofs.implied.add_by.Given as goal

abbrev pub invariant-loop-kind : goal.invariant-loop-kind
invariant-loop-kind l = l.names.items ≡ l.initial.names.items ++ by_kinds (take l.kind-index l.kinds) l.name
