use Rattle.unit_name.proofs.Prelude.{ap, is_some, kind, made_of_name, ◌∙◌}
use Rattle.unit_name.proofs.names.UnitName.kind.Goals as goal

pub unwrap-requires : goal.unwrap-requires
unwrap-requires c = ap is_some (c.kind_in.ensures.kind ∙ ap kind c.as_slice.ensures.bytes ∙ (made_of_name _ c.self.invariant).1)
