use Rattle.node_histories.proofs.Prelude.{ap, legal_opening, opening_of, ◌∙◌}
use Rattle.node_histories.proofs.published_copy.published_copy_of.Goals as goal

pub returns-clause-opening : goal.returns-clause-opening
returns-clause-opening g c =
    ap opening_of c.history.ensures.log ∙ legal_opening g.N.NodeName.opening c.args.prefix.now c.history.ensures.legal
