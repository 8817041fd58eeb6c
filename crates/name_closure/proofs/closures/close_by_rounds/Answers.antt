use Rattle.std.proofs.Common.{◌-◌, ◌<◌, ◌≤◌}
use Rattle.name_closure.proofs.{Prelude.{arith, keys, LeadsByLoad, length, length-keys_of, Listed, not_over, rules}, Rounding.{closure_at_end, length-found, over_in_round, under_way_more, under_way_start}}
use Rattle.name_closure.proofs.closures.close_by_rounds.Goals as goal

pub loop-alloc-init : goal.loop-alloc-init
loop-alloc-init g c =
    let loader = c.args.loader.now in
    record {
      way =
          under_way_start g.K.Ord.cmp (g.L.Loads.is_node loader) (g.L.Loads.is_loaded loader) (g.L.Loads.named loader) c.args.sources.now _ _
          c.new-found.ensures.empty c.new-found.ensures.ordered c.requires.sources (rw c.in_ok-sources.ensures.copy at c.new_of-fresh.ensures.fresh);
      room = search rules;
    }

pub returns-then-len-limit-clause-over : goal.returns-then-len-limit-clause-over
returns-then-len-limit-clause-over g c =
    let loader = c.args.loader.now in
    over_in_round g.K.Ord.cmp (g.L.Loads.is_node loader) (g.L.Loads.is_loaded loader) (g.L.Loads.named loader) c.args.sources.now _ _
    c.loop-alloc.invariant.way g.met.K.Ord.total g.met.K.Key.exact (search rules)

pub load_round-requires : goal.load_round-requires
load_round-requires g c = c.requires.ready c.loop-alloc.fresh c.loop-alloc.invariant.way.fresh_ascending c.loop-alloc.invariant.way.fresh_nodes

pub add_loaded-requires-clause-found : goal.add_loaded-requires-clause-found
add_loaded-requires-clause-found g c = c.loop-alloc.invariant.way.loaded

pub add_loaded-requires-clause-pairs : goal.add_loaded-requires-clause-pairs
add_loaded-requires-clause-pairs g c =
    let round = rw c.in_ok-pairs.was at (c.requires.loads c.loop-alloc.fresh c.load_round.result c.load_round.ensures) in
    round.loads.loaded

pub loop-alloc-smaller : goal.loop-alloc-smaller
loop-alloc-smaller g c =
    let loader = c.args.loader.now in
    let round = rw c.in_ok-pairs.was at (c.requires.loads c.loop-alloc.fresh c.load_round.result c.load_round.ensures) in
    let long =
    length-found g.K.Ord.cmp (g.L.Loads.is_node loader) (g.L.Loads.is_loaded loader) (g.L.Loads.named loader) c.args.sources.now _ _ _ _
    c.loop-alloc.invariant.way round.loads c.in_ok-add_loaded.ensures.joined g.met.K.Ord.total g.met.K.Key.exact c.add_loaded.ensures.ascending in
    let some : 0 < length c.loop-alloc.fresh.items = search rules in
    let fits : length c.loop-alloc.fresh.items ≤ c.args.limit - length c.loop-alloc.found.entries = search rules in
    omega arith

pub loop-alloc-preserved : goal.loop-alloc-preserved
loop-alloc-preserved g c =
    let loader = c.args.loader.now in
    let round = rw c.in_ok-pairs.was at (c.requires.loads c.loop-alloc.fresh c.load_round.result c.load_round.ensures) in
    let said = c.in_ok-add_loaded.ensures in
    let long =
    length-found g.K.Ord.cmp (g.L.Loads.is_node loader) (g.L.Loads.is_loaded loader) (g.L.Loads.named loader) c.args.sources.now _ _ _ _
    c.loop-alloc.invariant.way round.loads said.joined g.met.K.Ord.total g.met.K.Key.exact c.add_loaded.ensures.ascending in
    let fits : length c.loop-alloc.fresh.items ≤ c.args.limit - length c.loop-alloc.found.entries = search rules in
    let room : length c.loop-alloc.found.entries ≤ c.args.limit = c.loop-alloc.invariant.room in
    record {
      way =
          under_way_more g.K.Ord.cmp (g.L.Loads.is_node loader) (g.L.Loads.is_loaded loader) (g.L.Loads.named loader) c.args.sources.now _ _ _ _
          c.loop-alloc.invariant.way round.loads said.joined (g.met.L.Loads.one loader) _ _ said.entries c.add_loaded.ensures.ascending round.others round.can_load
          c.new_of-fresh-in-loop-alloc.ensures.fresh;
      room = omega arith;
    }

pub returns-clause-closure : goal.returns-clause-closure
returns-clause-closure g c =
    let loader = c.args.loader.now in
    closure_at_end g.K.Ord.cmp (g.L.Loads.is_node loader) (g.L.Loads.is_loaded loader) (g.L.Loads.named loader) c.args.sources.now _ _
    c.loop-alloc.invariant.way (search rules)

pub returns-clause-loaded : goal.returns-clause-loaded
returns-clause-loaded g c = c.loop-alloc.invariant.way.loaded

pub returns-clause-nodes : goal.returns-clause-nodes
returns-clause-nodes g c = c.loop-alloc.invariant.way.nodes

pub returns-clause-not_over : goal.returns-clause-not_over
returns-clause-not_over g c =
    let loader = c.args.loader.now in
    not_over g.K.Ord.cmp g.met.K.Ord.total (Listed c.args.sources.now) (LeadsByLoad (g.L.Loads.is_loaded loader) (g.L.Loads.named loader))
    (keys c.loop-alloc.found) c.args.limit
    (closure_at_end g.K.Ord.cmp (g.L.Loads.is_node loader) (g.L.Loads.is_loaded loader) (g.L.Loads.named loader) c.args.sources.now _ _
    c.loop-alloc.invariant.way (search rules))
    (rw (length-keys_of c.loop-alloc.found.entries) c.loop-alloc.invariant.room)
