use Rattle.std.proofs.Common.{◌∷◌}
use Rattle.name_closure.proofs.{Insertions.{holds_next}, Prelude.{[], All-rest, loads_append, loads_none, loads_one, rules}}
use Rattle.name_closure.proofs.loads.load_each.Goals as goal

pub loop-node-init : goal.loop-node-init
loop-node-init g c = record { loads = rw c.new-pairs.ensures.items (loads_none (g.L.Loads.is_loaded c.args.loader.now)); left = search rules }

pub load-requires : goal.load-requires
load-requires g c = record {
  node =
      holds_next (g.L.Loads.is_node c.args.loader.now) c.in-Some.node c.loop-node.node-iterator.rest.items c.next.new.self.rest.items
      c.in-Some.ensures.steps.0 c.loop-node.invariant.left;
}

pub loop-node-preserved : goal.loop-node-preserved
loop-node-preserved g c = record {
  loads =
      rw c.in_ok-push.ensures.items
      (loads_append (g.L.Loads.is_loaded c.args.loader.now) _ (c.in-Some.node ∷ []) _ _ c.loop-node.invariant.loads
      (loads_one (g.L.Loads.is_loaded c.args.loader.now) c.in-Some.node c.in_ok-one.one c.in_ok-one.ensures.loaded));
  left =
      All-rest (g.L.Loads.is_node c.args.loader.now) c.in-Some.node c.next.new.self.rest.items c.loop-node.node-iterator.rest.items
      c.in-Some.ensures.steps.0 c.loop-node.invariant.left;
}
