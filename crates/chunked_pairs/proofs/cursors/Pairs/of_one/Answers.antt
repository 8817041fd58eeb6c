use Rattle.chunked_pairs.proofs.Passes.{one_is_run}
use Rattle.chunked_pairs.proofs.cursors.Pairs.of_one.Goals as goal

pub of-requires : goal.of-requires
of-requires g c = record { chained = one_is_run g.K.Ord.cmp c.args.pair.now c.type_inv.pair }
