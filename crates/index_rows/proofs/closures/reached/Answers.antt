use Rattle.index_rows.proofs.{Prelude.{LeadsOn, Named, successors_from, ◌∙◌}, Walks.{all_alone, over_edges}}
use Rattle.index_rows.proofs.closures.reached.Goals as goal

pub returns-clause-reached : goal.returns-clause-reached
returns-clause-reached c =
    over_edges c.reached_on.result c.args.sources.now (LeadsOn c.args.successors.now c.new-none.result c.deref.result.now c.deref-2.result.now) (Named (successors_from c.args.successors.now))
    (all_alone c.args.count c.args.successors.now c.new-none.result c.deref.result.now c.deref-2.result.now c.new-none.ensures.none (c.deref-2.ensures.value ∙ c.in_ok-all.ensures.all) c.requires.successors)
    c.reached_on.ensures.reached
