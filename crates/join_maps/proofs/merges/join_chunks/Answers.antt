use Rattle.join_maps.proofs.Prelude.{subst}
use Rattle.join_maps.proofs.{Ends.{IsUnderWay, under_way_done, under_way_first}, Lasts.{joined_in_part, last_smaller, more_joined}, Slices.{none_left}}
use Rattle.join_maps.proofs.merges.join_chunks.Goals as goal

pub loop-chunks-init : goal.loop-chunks-init
loop-chunks-init g c = (under_way_first g.K.Ord.cmp g.met.K.Ord.total g.V.Join.is_valid g.V.Join.below g.met.V.Join.reflexive g.met.V.Join.transitive g.V.Join.is_single _ _ c.requires.map.map c.requires.other_map.map, (c.requires.map.chunks, c.requires.other_map.chunks))

pub is_empty-requires-in-loop-chunks : goal.is_empty-requires-in-loop-chunks
is_empty-requires-in-loop-chunks g c = record { chunks = c.loop-chunks.invariant.1.1 }

pub join_last-requires-clause-map : goal.join_last-requires-clause-map
join_last-requires-clause-map g c = record { chunks = c.loop-chunks.invariant.1.0; map = c.loop-chunks.invariant.0.map }

pub join_last-requires-clause-other : goal.join_last-requires-clause-other
join_last-requires-clause-other g c = c.loop-chunks.invariant.1.1

pub returns-then-not-join_last-clause-joined : goal.returns-then-not-join_last-clause-joined
returns-then-not-join_last-clause-joined g c =
    joined_in_part g.K.Ord.cmp g.met.K.Ord.total g.V.Join.is_valid g.V.Join.below g.met.V.Join.reflexive g.met.V.Join.transitive g.V.Join.is_single _ _ _ _ _ _ c.loop-chunks.invariant.0 c.join_last.ensures.map.map c.if-not-join_last.ensures.stopped

pub loop-chunks-smaller : goal.loop-chunks-smaller
loop-chunks-smaller g c = last_smaller g.K.Ord.cmp g.V.Join.below _ _ _ _ c.if-not-join_last.ensures.joined

pub loop-chunks-preserved : goal.loop-chunks-preserved
loop-chunks-preserved g c = (
  more_joined g.K.Ord.cmp g.met.K.Ord.total g.V.Join.is_valid g.V.Join.below g.met.V.Join.reflexive g.met.V.Join.transitive g.V.Join.is_single _ _ _ _ _ _ c.loop-chunks.invariant.0 c.join_last.ensures.map.map c.if-not-join_last.ensures.joined,
  (c.join_last.ensures.map.chunks, c.join_last.ensures.other),
)

pub returns-clause-chunks : goal.returns-clause-chunks
returns-clause-chunks g c = c.loop-chunks.invariant.1.0

pub returns-clause-other_chunks : goal.returns-clause-other_chunks
returns-clause-other_chunks g c = c.loop-chunks.invariant.1.1

pub returns-clause-joined : goal.returns-clause-joined
returns-clause-joined g c = record {
  map = c.loop-chunks.invariant.0.map;
  other_map = c.loop-chunks.invariant.0.left_map;
  ok = under_way_done g.K.Ord.cmp g.met.K.Ord.total g.V.Join.is_valid g.V.Join.below g.met.V.Join.reflexive g.met.V.Join.transitive g.V.Join.is_single _ _ _ (subst (IsUnderWay g.K.Ord.cmp g.V.Join.is_valid g.V.Join.below g.V.Join.is_single _ _ _) (none_left _ c.is_empty-in-loop-chunks.result c.is_empty-in-loop-chunks.ensures.empty c.loop-chunks-test.false) c.loop-chunks.invariant.0);
  refused = tt;
  single = tt;
}
