use Rattle.inverse_deps.proofs.Prelude.{ap, EdgeMap, find_at, find_gap, list_at, name_cmp, names_in, nat_list_cmp_total, Some, sym, ◌∙◌}
use Rattle.inverse_deps.proofs.lists.Edges.of.Goals as goal

pub returns-in-Ok : goal.returns-in-Ok
returns-in-Ok c = record {
  names =
      c.list_of.ensures.list
      ∙ ap (λ lists. list_at c.args.kind (Some lists)) (c.as_slice.ensures.elements ∙ ap (λ p. p.1) c.index.ensures)
      ∙ ap (list_at c.args.kind) (sym (find_at name_cmp c.args.name.now _ _ c.index.result.now (rw c.deref.ensures.value at c.in-Ok.ensures.found)))
      ∙ ap (λ (m : EdgeMap). names_in m c.args.kind c.args.name.now) c.self.view_is;
}

pub returns-in-Err : goal.returns-in-Err
returns-in-Err c = record {
  names =
      ap (list_at c.args.kind) (sym (find_gap name_cmp c.args.name.now nat_list_cmp_total _ _ c.self.invariant.sorted (rw c.deref.ensures.value at c.in-Err.ensures.absent)))
      ∙ ap (λ (m : EdgeMap). names_in m c.args.kind c.args.name.now) c.self.view_is;
}
