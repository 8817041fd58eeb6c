use Rattle.parallel_load.proofs.SecondaryNames.{AreOfFirst}
use Rattle.parallel_load.proofs.secondary_names.pairs_of.Given as goal

abbrev pub invariant-loop-index : goal.invariant-loop-index
invariant-loop-index l = AreOfFirst l.names l.index l.pairs.items
