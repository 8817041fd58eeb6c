use Rattle.inverse_deps.proofs.Prelude.{ap, find, find_gap, IsAt, List, Name, name_cmp, nat_list_cmp_total, NameLoad, option_map, subst, sym, ◌∙◌}
use Rattle.parallel_load.specs.Loads.{main_part}
use Rattle.inverse_deps.proofs.indices.main_index.Goals as goal

pub returns-in-Ok : goal.returns-in-Ok
returns-in-Ok c = record {
  index = c.main_index_at.ensures.index c.args.name.now (subst (λ (names : List (Name × NameLoad)). IsAt name_cmp c.args.name.now names c.in-Ok.at) c.names-names.ensures.names c.in-Ok.ensures.found);
}

pub returns-in-Err : goal.returns-in-Err
returns-in-Err c = record {
  index =
      ap (λ (names : List (Name × NameLoad)). option_map main_part (find name_cmp c.args.name.now names)) (sym c.names-names.ensures.names)
      ∙ ap (option_map main_part) (find_gap name_cmp c.args.name.now nat_list_cmp_total _ _ c.names-names.ensures.sorted c.in-Err.ensures.absent);
}
