use Rattle.std.proofs.Common.{◌∷◌, ◌≡◌}
use Rattle.node_histories.proofs.Prelude.{[], ap, HistoryEvent, IsLegal, List, Opening, opening_of, refl, replica_of, replica_of-opening, subst, sym, takes_in, ◌∙◌}
use Rattle.node_histories.proofs.published_copy.PublishedCopy.opening.Goals as goal

pub invariant_of-result : goal.invariant_of-result
invariant_of-result c =
    let r = c.args.replica in
    let log : c.again.result.log ≡ Opening r ∷ [] = ap (λ s. s.log) c.again.ensures ∙ c.requires.opened in
    record {
      kept = c.in_ok-new.ensures.ok ∙ sym (ap replica_of log ∙ replica_of-opening r);
      counted = sym (ap takes_in log);
      legal = subst (λ (h : List HistoryEvent). IsLegal (opening_of h) h) (sym log) (refl, tt);
    }
