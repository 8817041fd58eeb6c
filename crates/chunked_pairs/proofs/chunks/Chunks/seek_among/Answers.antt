use Rattle.chunked_pairs.proofs.{Lengths.{falls_to_last}, Prelude.{after_last, ap, arith, Equal, last_has, Less, run_at, run_is, sym, turned, ◌∙◌}}
use Rattle.chunked_pairs.proofs.chunks.Chunks.seek_among.Goals as goal

pub returns-in-Less-clause-falls : goal.returns-in-Less-clause-falls
returns-in-Less-clause-falls g c =
    let e = c.in-Some.pair.now in
    let is = ap (run_at c.args.self.now.0 c.args.self.now.1) (sym c.last_run-last.ensures.last) ∙ sym c.run-run.ensures.run ∙ c.in-Some.ensures.cases.0 in
    let above = turned g.K.Ord.cmp g.met.K.Ord.total e.0 _ Less (sym c.order.ensures.order ∙ c.in-Less.is) in
    rw c.last_run-last.ensures.last (falls_to_last g.K.Ord.cmp g.met.K.Ord.total (g.S.Sought.key c.args.sought.now) e c.in-Some.before.now c.args.self.now.0 c.args.self.now.1 c.requires.chunks.chained is (λ l. cc (above, l)))

pub returns-in-Equal-clause-falls : goal.returns-in-Equal-clause-falls
returns-in-Equal-clause-falls g c =
    let e = c.in-Some.pair.now in
    let is = ap (run_at c.args.self.now.0 c.args.self.now.1) (sym c.last_run-last.ensures.last) ∙ sym c.run-run.ensures.run ∙ c.in-Some.ensures.cases.0 in
    let same = turned g.K.Ord.cmp g.met.K.Ord.total e.0 _ Equal (sym c.order.ensures.order ∙ c.in-Equal.is) in
    rw c.last_run-last.ensures.last (falls_to_last g.K.Ord.cmp g.met.K.Ord.total (g.S.Sought.key c.args.sought.now) e c.in-Some.before.now c.args.self.now.0 c.args.self.now.1 c.requires.chunks.chained is (λ l. cc (same, l)))

pub returns-in-Less-clause-absent : goal.returns-in-Less-clause-absent
returns-in-Less-clause-absent g c =
    let run = run_is g.K.Ord.cmp g.met.K.Ord.total c.args.self.now.0 c.args.self.now.1 c.last_run-last.result (rw c.last_run-last.ensures.last (omega arith)) c.requires.chunks.chained in
    rw (sym c.run-run.ensures.run) (after_last g.K.Ord.cmp g.met.K.Ord.total (g.S.Sought.key c.args.sought.now) _ _ _ c.in-Some.ensures.cases.0 (rw c.run-run.ensures.run run.sorted) (sym c.order.ensures.order ∙ c.in-Less.is))

pub returns-in-Equal-clause-found : goal.returns-in-Equal-clause-found
returns-in-Equal-clause-found g c =
    let run = run_is g.K.Ord.cmp g.met.K.Ord.total c.args.self.now.0 c.args.self.now.1 c.last_run-last.result (rw c.last_run-last.ensures.last (omega arith)) c.requires.chunks.chained in
    rw (sym c.run-run.ensures.run) (last_has g.K.Ord.cmp g.met.K.Ord.total (g.S.Sought.key c.args.sought.now) _ _ _ c.in-Some.ensures.cases.0 (rw c.run-run.ensures.run run.sorted) (sym c.order.ensures.order ∙ c.in-Equal.is))
