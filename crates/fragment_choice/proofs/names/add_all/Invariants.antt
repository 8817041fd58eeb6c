use Rattle.std.proofs.Common.{◌≡◌}
use Rattle.fragment_choice.proofs.Prelude.{Adds}
use Rattle.fragment_choice.proofs.names.add_all.Given as goal

abbrev pub invariant-loop-name : goal.invariant-loop-name
invariant-loop-name l = record {
  list : l.list.items ≡ l.yielded;
  added : Adds l.yielded l.initial.others.keys l.others.keys;
}
