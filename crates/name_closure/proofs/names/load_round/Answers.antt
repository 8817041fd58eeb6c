use Rattle.name_closure.proofs.Prelude.{AreOthers, flat_map, List, subst}
use Rattle.name_closure.proofs.names.load_round.Goals as goal

pub others_named-requires : goal.others_named-requires
others_named-requires g c = record {
  nodes = rw (c.deref-2.ensures.value, c.in_ok-pairs.ensures.pairs.in_order) c.requires.nodes;
  loaded = rw c.deref-2.ensures.value c.in_ok-pairs.ensures.pairs.loaded;
}

pub returns : goal.returns
returns g c = record {
  round = record {
    loads = c.in_ok-pairs.ensures.pairs;
    others =
        subst (λ (ps : List (g.row.K.Denot × g.row.L-Loaded.Denot)). AreOthers c.args.fresh.items (flat_map (λ p. g.L.Loads.named c.args.loader.now p.1) ps) c.in_ok-names.names.items)
        c.deref-2.ensures.value
        (subst (λ (ns : List g.row.K.Denot). AreOthers ns (flat_map (λ p. g.L.Loads.named c.args.loader.now p.1) c.deref-2.result.now) c.in_ok-names.names.items) c.in_ok-pairs.ensures.pairs.in_order
        (rw c.deref.ensures.value at c.in_ok-names.ensures.others));
    can_load = c.in_ok-names.ensures.nodes;
  };
}
