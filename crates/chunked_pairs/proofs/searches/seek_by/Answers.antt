use Rattle.chunked_pairs.proofs.Prelude.{after_last, last_has, sym, ◌∙◌}
use Rattle.chunked_pairs.proofs.searches.seek_by.Goals as goal

pub returns-in-Less-clause-absent : goal.returns-in-Less-clause-absent
returns-in-Less-clause-absent g c = after_last g.K.Ord.cmp g.met.K.Ord.total (g.S.Sought.key c.args.sought.now) _ _ _ c.in-Some.ensures.cases.0 c.requires.sorted (sym c.order.ensures.order ∙ c.in-Less.is)

pub returns-in-Equal-clause-found : goal.returns-in-Equal-clause-found
returns-in-Equal-clause-found g c = last_has g.K.Ord.cmp g.met.K.Ord.total (g.S.Sought.key c.args.sought.now) _ _ _ c.in-Some.ensures.cases.0 c.requires.sorted (sym c.order.ensures.order ∙ c.in-Equal.is)
