use Rattle.std.proofs.Common.{◌++◌}
use Rattle.unit_name.proofs.{Prelude.{ap, eqb-true, List, nil_from_length, option_map, sym, unescape, unescape-nil, ℕ, ◌∙◌}, Steps.{all_there}}
use Rattle.unit_name.proofs.escapes.push_unescaped.Goals as goal

pub returns : goal.returns
returns c =
    let nil = nil_from_length c.loop-rest.rest.now (eqb-true _ _ (sym c.loop-rest-test.ensures)) in
    let end = ap (λ r. option_map (λ (v : List ℕ). c.loop-rest.out.items ++ v) (unescape r)) nil in
    record { unescaped = all_there (unescape c.args.text.now) c.loop-rest.out.items c.args.out.now.items (sym (end ∙ ap (option_map (λ (v : List ℕ). c.loop-rest.out.items ++ v)) unescape-nil) ∙ c.loop-rest.invariant) }
