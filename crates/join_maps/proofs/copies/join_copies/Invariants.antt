use Rattle.join_maps.proofs.CopyWalks.{IsCopied}
use Rattle.join_maps.proofs.copies.join_copies.Given as goal

abbrev pub invariant-loop-i : goal.invariant-loop-i
invariant-loop-i g l = IsCopied g.K.Ord.cmp g.met.K.Ord.total g.V.Join.below g.met.V.Join.reflexive g.met.V.Join.transitive g.V.Join.is_valid l.initial.pairs.items l.pairs.items l.other l.i
