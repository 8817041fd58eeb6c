use Rattle.shared_node.proofs.Prelude.{AllAgree, HistoryEvent, List, subst, sym}
use Rattle.shared_node.proofs.node.Node.close.Goals as goal

pub returns-in-Ok-clause-agree : goal.returns-in-Ok-clause-agree
returns-in-Ok-clause-agree g c =
    subst (λ (l : List HistoryEvent). AllAgree l c.args.seats.items) (sym c.wind_up.ensures.log) c.in-Ok.ensures.agree
