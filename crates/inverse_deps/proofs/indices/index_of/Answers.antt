use Rattle.inverse_deps.proofs.Finding.{found_alias, found_unit, not_found}
use Rattle.inverse_deps.proofs.indices.index_of.Goals as goal

pub returns-in-Unit : goal.returns-in-Unit
returns-in-Unit c = record {
  index = found_unit c.args.loaded.now _ c.names-names.ensures.names c.args.name.now c.in-Ok.at c.index-names-at.result c.in-Unit.field-0 c.in-Ok.ensures.found c.in-Unit.is;
}

pub returns-in-Alias : goal.returns-in-Alias
returns-in-Alias c = record {
  index = found_alias c.args.loaded.now _ c.names-names.ensures.names c.args.name.now c.in-Ok.at c.index-names-at.result c.in-Alias.field-0 c.in-Ok.ensures.found c.in-Alias.is;
}

pub returns-in-Err : goal.returns-in-Err
returns-in-Err c = record {
  index = not_found c.args.loaded.now _ c.names-names.ensures.names c.args.name.now c.in-Err.field-0 c.names-names.ensures.sorted c.in-Err.ensures.absent;
}
