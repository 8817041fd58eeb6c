use Rattle.unit_name.proofs.Prelude.{ap, eqb-true, is_some, nil_from_length, sym, unescape, unescape-nil, ◌∙◌}
use Rattle.unit_name.proofs.escapes.spells_bytes.Goals as goal

pub returns : goal.returns
returns c =
    let nil = nil_from_length c.loop-rest.rest.now (eqb-true _ _ (sym c.loop-rest-test.ensures)) in
    record { test = sym (ap (λ r. is_some (unescape r)) nil ∙ ap is_some unescape-nil) ∙ c.loop-rest.invariant }
