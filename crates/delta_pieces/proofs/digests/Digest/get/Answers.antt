use Rattle.delta_pieces.proofs.{HostViews.{get-versions}, Prelude.{ap, find_at, find_gap, place_cmp, place_cmp_total, Some, sym, ◌∙◌}}
use Rattle.std.specs.FinMap as finmap
use Rattle.delta_pieces.proofs.digests.Digest.get.Goals as goal

pub returns-in-Ok : goal.returns-in-Ok
returns-in-Ok c = record {
  version =
      ap (λ p. Some p.1) c.index.ensures
      ∙ sym (find_at place_cmp c.args.place.now _ _ c.index.result.now (rw c.deref.ensures.value at c.in-Ok.ensures.found))
      ∙ sym (get-versions _ c.args.place.now c.self.invariant) ∙ ap (λ m. finmap.get m c.args.place.now) c.self.view_is;
}

pub returns-in-Err : goal.returns-in-Err
returns-in-Err c = record {
  version =
      sym (find_gap place_cmp c.args.place.now place_cmp_total _ _ c.self.invariant (rw c.deref.ensures.value at c.in-Err.ensures.absent))
      ∙ sym (get-versions _ c.args.place.now c.self.invariant) ∙ ap (λ m. finmap.get m c.args.place.now) c.self.view_is;
}
