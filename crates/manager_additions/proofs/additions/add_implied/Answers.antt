use Rattle.std.proofs.Common.{rules, ◌≡◌}
use Rattle.manager_additions.proofs.{Changed.{none_stays}, Prelude.{ap, length, sym, tests, ◌∙◌}}
use Rattle.manager_additions.proofs.additions.add_implied.Goals as goal

pub returns-then-is_empty : goal.returns-then-is_empty
returns-then-is_empty c =
    let none : length c.as_slice.result.now ≡ 0 = search (rules, tests) in
    record { list = none_stays c.args.list.now c.args.implied.now c.add_of_kind.new.names c.in_ok-add_of_kind.ensures.added (ap length (sym c.as_slice.ensures.elements) ∙ none) }
