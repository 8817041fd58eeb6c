use Rattle.std.proofs.Common.{◌≡◌}
use Rattle.dropins.proofs.Prelude.{ap, first_for, get, IfOk-weaker, List, name_cmp, option_or, took, took_over, ℕ, ◌∙◌}
use Rattle.dropins.proofs.precedence.taken.Goals as goal

pub returns : goal.returns
returns c =
    let s = c.args.view.now in
    let x = c.args.search in
    record {
      taken =
          IfOk-weaker c.firsts.result (λ takes. (f : List ℕ) → get name_cmp takes f ≡ first_for c.add_levels-2.new.found.items f) (λ takes. (f : List ℕ) → get name_cmp takes f ≡ took_over s x c.args.name_dirs.now c.args.type_dirs.now f)
          (λ takes h f.
          h f ∙ c.in_ok-add_levels-2.ensures.added f
          ∙ ap (λ o. option_or o (took s x c.args.type_dirs.now f)) (c.in_ok-add_levels.ensures.added f ∙ ap (λ cs. option_or (first_for cs f) (took s x c.args.name_dirs.now f)) c.new-found.ensures.items))
          c.firsts.ensures.firsts;
    }
