use Rattle.std.proofs.Common.{◌+◌}
use Rattle.index_rows.proofs.{Insides.{kind_adjacency, kind_more, neighbors_inside, neighbors_there, spread_kind}, Prelude.{Bor, length, List, refl, take, ℕ}}
use Rattle.index_rows.proofs.successors.Successors.spread.Goals as goal

-- the adjacency lists of this kind
abbrev now : Bor (List (List ℕ)) → List (List ℕ)
now adjacency = adjacency.now

pub neighbors-requires : goal.neighbors-requires
neighbors-requires c =
    let adjacency = kind_adjacency now c.args.self.now c.self.inside.kinds.items c.deref-adjacency-items.result.now c.deref-adjacency-items.ensures.value c.self.view_is c.loop-adjacency.adjacency-index c.adjacency-item.result c.loop-adjacency-test.true c.adjacency-item.is (length c.args.seen.now.items) c.requires.successors in
    neighbors_there _ _ c.adjacency-item.result.now c.args.node adjacency refl c.requires.node

pub spread_inside-requires-clause-nodes : goal.spread_inside-requires-clause-nodes
spread_inside-requires-clause-nodes c =
    let adjacency = kind_adjacency now c.args.self.now c.self.inside.kinds.items c.deref-adjacency-items.result.now c.deref-adjacency-items.ensures.value c.self.view_is c.loop-adjacency.adjacency-index c.adjacency-item.result c.loop-adjacency-test.true c.adjacency-item.is (length c.args.seen.now.items) c.requires.successors in
    neighbors_inside _ _ c.adjacency-item.result.now c.args.node c.neighbors.result.now adjacency c.loop-adjacency.invariant.units c.neighbors.ensures

pub loop-adjacency-preserved : goal.loop-adjacency-preserved
loop-adjacency-preserved c =
    let more = kind_more now c.args.self.now c.self.inside.kinds.items c.deref-adjacency-items.result.now c.deref-adjacency-items.ensures.value c.self.view_is c.loop-adjacency.adjacency-index c.adjacency-item.result c.loop-adjacency-test.true c.adjacency-item.is in
    let here = rw c.neighbors.ensures at c.in_ok-spread_inside.ensures in
    spread_kind _ _ _ _ _ _ c.args.inside.now c.args.node (take c.loop-adjacency.adjacency-index c.args.self.now) (take (c.loop-adjacency.adjacency-index + 1) c.args.self.now) c.adjacency-item.result.now more c.loop-adjacency.invariant here
