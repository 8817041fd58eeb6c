use Rattle.std.proofs.Common.{◌++◌, ◌∷◌}
use Rattle.chunked_pairs.proofs.{Passes.{after_chained, after_find, after_first, met, not_itself, stands, unmet}, Prelude.{[], ap, AreChained, chained_after, find, later, not_below, subst, viewed, ◌∙◌}}
use Rattle.chunked_pairs.proofs.cursors.Pairs.meet.Goals as goal

pub invariant_of-self : goal.invariant_of-self
invariant_of-self g c =
    let left = c.self.inside.left.now in
    after_chained g.K.Ord.cmp g.met.K.Ord.total c.args.key.now left c.in-Some.left.now (viewed c.self.inside.more.now)
    (after_first g.K.Ord.cmp c.args.key.now left c.in-Some.left.now c.in-Some.pair.now c.cmp.result c.in-Some.ensures.cases.0 c.cmp.ensures c.in-Less.is)
    c.self.invariant

pub returns-in-Less-clause-found : goal.returns-in-Less-clause-found
returns-in-Less-clause-found g c =
    let k = c.args.key.now in
    let left = c.self.inside.left.now in
    c.meet_further-in-Less.ensures.found
    ∙ after_find g.K.Ord.cmp g.met.K.Ord.total k left c.in-Some.left.now (later (viewed c.self.inside.more.now))
    (after_first g.K.Ord.cmp k left c.in-Some.left.now c.in-Some.pair.now c.cmp.result c.in-Some.ensures.cases.0 c.cmp.ensures c.in-Less.is)
    k (not_itself g.K.Ord.cmp g.met.K.Ord.total k)
    ∙ ap (find g.K.Ord.cmp k) c.self.view_is

pub returns-in-Less-clause-after : goal.returns-in-Less-clause-after
returns-in-Less-clause-after g c q less =
    let k = c.args.key.now in
    let left = c.self.inside.left.now in
    c.meet_further-in-Less.ensures.after q less
    ∙ after_find g.K.Ord.cmp g.met.K.Ord.total k left c.in-Some.left.now (later (viewed c.self.inside.more.now))
    (after_first g.K.Ord.cmp k left c.in-Some.left.now c.in-Some.pair.now c.cmp.result c.in-Some.ensures.cases.0 c.cmp.ensures c.in-Less.is)
    q (not_below g.K.Ord.cmp g.met.K.Ord.total k q less)
    ∙ ap (find g.K.Ord.cmp q) c.self.view_is

pub invariant_of-self-in-Equal : goal.invariant_of-self-in-Equal
invariant_of-self-in-Equal g c =
    let ms = viewed c.self.inside.more.now in
    chained_after g.K.Ord.cmp g.met.K.Ord.total (c.in-Some.pair.now ∷ []) c.in-Some.left.now ms (subst (λ l. AreChained g.K.Ord.cmp l ms) c.in-Some.ensures.cases.0 c.self.invariant)

pub returns-in-Equal-clause-after : goal.returns-in-Equal-clause-after
returns-in-Equal-clause-after g c q less =
    let k = c.args.key.now in
    let left = c.self.inside.left.now in
    let ys = later (viewed c.self.inside.more.now) in
    (met g.K.Ord.cmp g.met.K.Ord.total k left ys (c.in-Some.left.now ++ ys) c.in-Some.pair.now c.cmp.result
    (stands g.K.Ord.cmp k left c.in-Some.left.now c.in-Some.pair.now c.cmp.result c.in-Some.ensures.cases.0 c.cmp.ensures)
    c.in-Equal.is (ap (λ l. l ++ ys) c.in-Some.ensures.cases.0)).1 q less
    ∙ ap (find g.K.Ord.cmp q) c.self.view_is

pub returns-in-Greater-clause-found : goal.returns-in-Greater-clause-found
returns-in-Greater-clause-found g c =
    let k = c.args.key.now in
    let left = c.self.inside.left.now in
    unmet g.K.Ord.cmp g.met.K.Ord.total k left (viewed c.self.inside.more.now) c.cmp.result
    (stands g.K.Ord.cmp k left c.in-Some.left.now c.in-Some.pair.now c.cmp.result c.in-Some.ensures.cases.0 c.cmp.ensures)
    c.in-Greater.is c.self.invariant
    ∙ ap (find g.K.Ord.cmp k) c.self.view_is
