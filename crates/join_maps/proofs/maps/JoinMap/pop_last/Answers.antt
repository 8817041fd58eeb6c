use Rattle.join_maps.proofs.{Ends.{popped_is_held}, HeldPairs.{map_of}}
use Rattle.join_maps.proofs.maps.JoinMap.pop_last.Goals as goal

pub returns-clause-held : goal.returns-clause-held
returns-clause-held g c = popped_is_held g.K.Ord.cmp g.V.Join.below g.V.Join.is_valid _ _ c.pop_last.result c.pop_last.ensures.pairs (map_of g.K.Ord.cmp g.V.Join.below g.V.Join.is_valid c.self.inside.held c.self.invariant)
