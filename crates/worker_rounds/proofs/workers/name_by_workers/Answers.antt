use Rattle.std.proofs.Common.{◌*◌, ◌<◌, ◌≡◌, ◌≤◌}
use Rattle.worker_rounds.proofs.Prelude.{All, All-drop, All-take, AreLoaded, AreOthers, flat_map, get_or, IfOk, IfOk-weaker, IsJoined, keys_of, length, List, rules, subst, sym, vec_len, ◌∙◌}
use Rattle.worker_rounds.proofs.Naming.{joined_all, joined_others, part_holds, parts_cover}
use Rattle.worker_rounds.proofs.workers.name_by_workers.Goals as goal

pub map_chunks-requires-clause-accepts : goal.map_chunks-requires-clause-accepts
map_chunks-requires-clause-accepts g c κs within = λ start p chunk. (
  part_holds (g.L.Loads.is_node c.args.loader.now) c.args.pairs.now p.now start c.max-size.result chunk.value c.requires.nodes,
  subst (λ (ps : List (g.row.K.Denot × g.row.L-Loaded.Denot)). AreLoaded (g.L.Loads.is_loaded c.args.loader.now) ps) (sym chunk.value)
      (All-take (λ (q : g.row.K.Denot × g.row.L-Loaded.Denot). g.L.Loads.is_loaded c.args.loader.now q.0 q.1) c.max-size.result _
      (All-drop (λ (q : g.row.K.Denot × g.row.L-Loaded.Denot). g.L.Loads.is_loaded c.args.loader.now q.0 q.1) start c.args.pairs.now c.requires.loaded)),
)

pub returns-clause-others : goal.returns-clause-others
returns-clause-others g c =
    let own = keys_of c.args.pairs.now in
    let named = λ (p : g.row.K.Denot × g.row.L-Loaded.Denot). g.L.Loads.named c.args.loader.now p.1 in
    let parts = c.in_ok-named.named.items in
    let size = c.max-size.result in
    let some : 0 < size = search rules in
    let count : length parts ≡ vec_len c.in_ok-named.named = search rules in
    let enough = subst (λ k. length c.args.pairs.now ≤ k * size) (sym (count ∙ c.in_ok-named.ensures.len)) (parts_cover (length c.args.pairs.now) size some) in
    IfOk-weaker c.put_together.result (λ all. IsJoined parts all.items) (λ all. AreOthers own (flat_map named c.args.pairs.now) all.items)
    (λ all. joined_others own named size c.args.pairs.now parts all.items enough
    (λ i part l. (
    let r = (c.in_ok-named.ensures.each i part l).1 in
    let v = r.argument_is.value in
    let said : IfOk (get_or parts i part) (λ names. AreOthers own (flat_map named r.argument.now) names.items) = search (rules, r.call) in
    rw v at said)))
    c.put_together.ensures.joined

pub returns-clause-nodes : goal.returns-clause-nodes
returns-clause-nodes g c =
    let is_node = g.L.Loads.is_node c.args.loader.now in
    let parts = c.in_ok-named.named.items in
    IfOk-weaker c.put_together.result (λ all. IsJoined parts all.items) (λ all. All is_node all.items)
    (λ all. joined_all is_node parts all.items
    (λ i part l. (
    let r = (c.in_ok-named.ensures.each i part l).1 in
    let said : IfOk (get_or parts i part) (λ names. All is_node names.items) = search (rules, r.call) in
    said))) c.put_together.ensures.joined
