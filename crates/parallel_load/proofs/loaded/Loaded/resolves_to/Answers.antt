use Rattle.parallel_load.proofs.Prelude.{ap, find_at, find_gap, load_at, LoadMap, Name, name_cmp, NameLoad, nat_list_cmp_total, Some, sym, ◌∙◌}
use Rattle.parallel_load.proofs.loaded.Loaded.resolves_to.Goals as goal

pub returns-in-Ok : goal.returns-in-Ok
returns-in-Ok c = record {
  load =
      ap (λ (x : Name × NameLoad). Some x.1) c.index.ensures
      ∙ sym (find_at name_cmp c.args.name.now _ c.in-Ok.at c.index.result.now (rw c.deref.ensures.value at c.in-Ok.ensures.found))
      ∙ ap (λ (l : LoadMap). load_at l c.args.name.now) c.self.view_is;
}

pub returns-in-Err : goal.returns-in-Err
returns-in-Err c = record {
  load =
      sym (find_gap name_cmp c.args.name.now nat_list_cmp_total _ _ c.self.invariant.0.sorted (rw c.deref.ensures.value at c.in-Err.ensures.absent))
      ∙ ap (λ (l : LoadMap). load_at l c.args.name.now) c.self.view_is;
}
