use Rattle.chunked_pairs.proofs.{Lengths.{falls_to_first}, Prelude.{ap, sym, ◌∙◌}}
use Rattle.chunked_pairs.proofs.chunks.Chunks.seek_inside.Goals as goal

pub returns-in-Equal-clause-falls : goal.returns-in-Equal-clause-falls
returns-in-Equal-clause-falls g c = falls_to_first g.K.Ord.cmp g.met.K.Ord.total (g.S.Sought.key c.args.sought.now) _ _ c.args.self.now.0 c.args.self.now.1 c.requires.chunks.chained (sym (ap (λ v. v.0) c.self.view_is) ∙ sym c.deref.ensures.value ∙ c.in-Some.ensures.cases.0) (λ l. let e = sym c.order.ensures.order ∙ c.in-Equal.is in cc (e, l))

pub returns-in-Greater-clause-falls : goal.returns-in-Greater-clause-falls
returns-in-Greater-clause-falls g c = falls_to_first g.K.Ord.cmp g.met.K.Ord.total (g.S.Sought.key c.args.sought.now) _ _ c.args.self.now.0 c.args.self.now.1 c.requires.chunks.chained (sym (ap (λ v. v.0) c.self.view_is) ∙ sym c.deref.ensures.value ∙ c.in-Some.ensures.cases.0) (λ l. let e = sym c.order.ensures.order ∙ c.in-Greater.is in cc (e, l))
