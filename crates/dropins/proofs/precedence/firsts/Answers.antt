use Rattle.std.proofs.Common.{◌≡◌}
use Rattle.dropins.proofs.{Placed.{firsts_stay}, Prelude.{ap, eq_by_cmp, fact_from_collect, first_for, get, IfOk-weaker, IsFromIterResult, List, name_cmp, None, update_all, YieldsList-from_vec, ℕ, ◌∙◌}}
use Rattle.dropins.proofs.precedence.firsts.Goals as goal

pub returns : goal.returns
returns c =
    record {
      firsts =
          IfOk-weaker c.collect.result (λ takes. IsFromIterResult name_cmp c.reverse.new.self.items takes) (λ takes. (f : List ℕ) → get name_cmp takes f ≡ first_for c.args.found.items f)
          (λ takes made f. made.0 f ∙ ap (λ ps. update_all (eq_by_cmp name_cmp) (λ _. None) ps f) c.reverse.ensures.items ∙ firsts_stay c.args.found.items f)
          (fact_from_collect (λ xs n. IsFromIterResult name_cmp xs n) c.collect.result c.collect.ensures.ran (YieldsList-from_vec c.reverse.new.self.items (cc) (cc)));
    }
