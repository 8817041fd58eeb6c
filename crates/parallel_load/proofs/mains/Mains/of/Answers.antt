use Rattle.parallel_load.proofs.Indexing.{is_index}
use Rattle.parallel_load.proofs.mains.Mains.of.Goals as goal

pub invariant_of-result : goal.invariant_of-result
invariant_of-result c = is_index c.args.names.now c.in_ok-names.names.items c.requires.sorted c.in_ok-names.ensures.indexed
