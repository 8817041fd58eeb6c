use Rattle.parallel_load.proofs.Prelude.{AreIndexed, is_sorted, IsTrue, List, Name, name_cmp, NameLoad, sorted_from, subst, sym, ◌∙◌}
use Rattle.parallel_load.proofs.finishing.found_of.Goals as goal

pub of-requires : goal.of-requires
of-requires c = record {
  sorted =
      subst (λ (ps : List (Name × NameLoad)). IsTrue (is_sorted name_cmp ps)) (sym (c.as_slice.ensures.value ∙ c.in_ok-pairs.ensures.pairs))
      (sorted_from c.args.found.entries c.requires.ascending);
}

pub returns-clause-mains : goal.returns-clause-mains
returns-clause-mains c =
    subst (λ (ps : List (Name × NameLoad)). AreIndexed ps ps c.in_ok-mains.mains) (c.as_slice.ensures.value ∙ c.in_ok-pairs.ensures.pairs) c.in_ok-mains.ensures.mains
