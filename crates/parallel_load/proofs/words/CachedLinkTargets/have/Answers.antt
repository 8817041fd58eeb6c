use Rattle.parallel_load.proofs.Prelude.{[], ap, find_at, find_gap, List, Name, name_cmp, NamedWords, nat_list_cmp_total, Option, sym, Target, unwrap_or, words_in, ◌∙◌}
use Rattle.parallel_load.proofs.words.CachedLinkTargets.have.Goals as goal

pub returns-in-Ok : goal.returns-in-Ok
returns-in-Ok c = record {
  same = λ h.
      ap (λ (all : NamedWords). words_in all c.args.name.now) (sym c.self.view_is)
      ∙ ap (λ (o : Option (List Target)). unwrap_or o [])
      (find_at name_cmp c.args.name.now c.self.inside.names.items c.in-Ok.at c.index.result.now (rw c.deref.ensures.value at c.in-Ok.ensures.found))
      ∙ ap (λ (p : Name × List Target). p.1) (sym c.index.ensures)
      ∙ c.is.ensures.same h;
}

pub returns-in-Err : goal.returns-in-Err
returns-in-Err c = record {
  same = λ h.
      ap (λ (all : NamedWords). words_in all c.args.name.now) (sym c.self.view_is)
      ∙ ap (λ (o : Option (List Target)). unwrap_or o [])
      (find_gap name_cmp c.args.name.now nat_list_cmp_total c.self.inside.names.items _ c.self.invariant (rw c.deref.ensures.value at c.in-Err.ensures.absent))
      ∙ sym (c.are_none.ensures.none h);
}
