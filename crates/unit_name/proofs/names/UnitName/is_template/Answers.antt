use Rattle.unit_name.proofs.Prelude.{rules}
use Rattle.unit_name.proofs.names.UnitName.is_template.Goals as goal

pub returns-clause-template : goal.returns-clause-template
returns-clause-template c = search rules
