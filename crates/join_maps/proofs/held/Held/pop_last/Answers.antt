use Rattle.join_maps.proofs.{Ends.{popped_is_map}, Prelude.{subst}}
use Rattle.join_maps.specs.Held.{IsHeldMap}
use Rattle.join_maps.proofs.held.Held.pop_last.Goals as goal

pub returns-in-Runs-clause-map : goal.returns-in-Runs-clause-map
returns-in-Runs-clause-map g c =
    let mapped = subst (IsHeldMap g.K.Ord.cmp g.V.Join.below g.V.Join.is_valid) c.in-Runs.is c.requires.map in
    record { chunks = c.pop_last.ensures.chunks; map = popped_is_map g.K.Ord.cmp g.V.Join.below g.V.Join.is_valid _ _ c.pop_last.result c.pop_last.ensures.pairs mapped.map }
