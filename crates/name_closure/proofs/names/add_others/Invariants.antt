use Rattle.std.proofs.Common.{◌++◌}
use Rattle.name_closure.proofs.Prelude.{AreApart, AreOthers, IsStrictlySortedBy, keys_of}
use Rattle.name_closure.proofs.names.add_others.Given as goal

abbrev pub invariant-loop-node : goal.invariant-loop-node
invariant-loop-node g l = record {
  others : AreOthers (keys_of l.pairs) (l.fn.names.items ++ l.yielded) l.names.items;
  apart : IsStrictlySortedBy g.K.Ord.cmp (keys_of l.pairs) → AreApart (keys_of l.pairs) l.fn.names.items → AreApart (keys_of l.pairs) l.names.items;
}
