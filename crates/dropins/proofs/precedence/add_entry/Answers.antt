use Rattle.dropins.proofs.{Placed.{placed}, Prelude.{ap, bytes_eq, cond, first_for, None, option_or, sym, take_of, ◌∙◌}}
use Rattle.dropins.proofs.precedence.add_entry.Goals as goal

pub returns-in_ok-push : goal.returns-in_ok-push
returns-in_ok-push c =
    let name = c.in_ok-try_clone.ensures.copy ∙ c.name-name.ensures.name in
    record {
      added = λ f.
          ap (λ cs. first_for cs f) c.in_ok-push.ensures.items
          ∙ placed c.args.found.now.items c.in_ok-try_clone.field-0 f c.in-Some.take (take_of c.args.search c.args.placed) (sym c.take_of.ensures.take ∙ c.in-Some.is)
          ∙ ap (λ k. option_or (first_for c.args.found.now.items f) (cond (bytes_eq k f) (take_of c.args.search c.args.placed) None)) name;
    }
