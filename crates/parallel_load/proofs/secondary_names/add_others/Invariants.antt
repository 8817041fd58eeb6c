use Rattle.parallel_load.proofs.SecondaryNames.{AreLookedAt}
use Rattle.parallel_load.proofs.secondary_names.add_others.Given as goal

abbrev pub invariant-loop-other : goal.invariant-loop-other
invariant-loop-other l = AreLookedAt l.index l.name l.names l.initial.pairs.items l.pairs.items l.other-index
