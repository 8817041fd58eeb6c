use Rattle.worker_rounds.proofs.Prelude.{AreOthers, flat_map, List, subst}
use Rattle.worker_rounds.proofs.workers.load_by_workers.Goals as goal

pub returns : goal.returns
returns g c = record {
  round = record {
    loads = c.in_ok-pairs.ensures.pairs;
    others =
        subst (λ (ns : List g.row.K.Denot). AreOthers ns (flat_map (λ p. g.L.Loads.named c.args.loader.now p.1) c.in_ok-pairs.pairs.items) c.in_ok-names.names.items)
        c.in_ok-pairs.ensures.pairs.in_order
        (rw c.deref.ensures.value at c.in_ok-names.ensures.others);
    can_load = c.in_ok-names.ensures.nodes;
  };
}
