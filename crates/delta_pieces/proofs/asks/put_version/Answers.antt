use Rattle.delta_pieces.proofs.Prelude.{ap, insert, insert_is_put, place_cmp, PlaceParts, set, set_is_put, Version, ◌∙◌}
use Rattle.delta_pieces.proofs.asks.put_version.Goals as goal

pub returns-in-Ok : goal.returns-in-Ok
returns-in-Ok c = record {
  put =
      ap (λ (p : PlaceParts × Version). set c.args.versions.now.items c.in-Ok.at (p.0, c.args.version)) c.index_mut.ensures.value
      ∙ set_is_put place_cmp c.args.place.now _ c.in-Ok.at c.args.version c.index_mut.result.now (rw c.deref.ensures.value at c.in-Ok.ensures.found);
}

pub returns-in_ok-insert-in-Err : goal.returns-in_ok-insert-in-Err
returns-in_ok-insert-in-Err c = record {
  put =
      c.in_ok-insert-in-Err.ensures.items
      ∙ ap (λ (k : PlaceParts). insert c.args.versions.now.items c.in-Err.at (k, c.args.version)) c.in_ok-try_clone-in-Err.ensures.copy
      ∙ insert_is_put place_cmp c.args.place.now _ c.in-Err.at c.args.version (rw c.deref.ensures.value at c.in-Err.ensures.absent);
}
