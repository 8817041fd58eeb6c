use Rattle.index_rows.proofs.{Prelude.{LeadsInside, LeadsOn, length, ◌∙◌}, Walks.{inside_alone, over_edges}}
use Rattle.index_rows.proofs.closures.reached_inside.Goals as goal

pub returns-clause-reached : goal.returns-clause-reached
returns-clause-reached c =
    over_edges c.reached_on.result c.args.sources.now (LeadsOn c.new-none.result c.args.successors.now c.args.inside.now c.deref.result.now) (LeadsInside c.args.inside.now c.args.successors.now)
    (inside_alone (length c.args.inside.now) c.args.successors.now c.new-none.result c.args.inside.now c.deref.result.now c.new-none.ensures.none (c.deref.ensures.value ∙ c.in_ok-all.ensures.all) c.requires.successors)
    c.reached_on.ensures.reached
