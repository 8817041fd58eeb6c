use Rattle.std.proofs.Common.{◌+◌, ◌++◌}
use Rattle.chunked_pairs.proofs.{Passes.{after_gap, after_next, chained_rest, not_itself, rest_is}, Prelude.{ap, find, find_at, find_falls, find_gap, later, not_below, sym, viewed, ◌∙◌}}
use Rattle.chunked_pairs.proofs.cursors.Pairs.search.Goals as goal

pub invariant_of-self : goal.invariant_of-self
invariant_of-self g c = chained_rest g.K.Ord.cmp g.met.K.Ord.total c.args.key.now (c.in-Ok.at + 1) c.pass_runs.result.0.now (viewed c.pass_runs.result.1.now) c.pass_runs.ensures.chained

pub invariant_of-self-in-Err : goal.invariant_of-self-in-Err
invariant_of-self-in-Err g c = chained_rest g.K.Ord.cmp g.met.K.Ord.total c.args.key.now c.in-Err.at c.pass_runs.result.0.now (viewed c.pass_runs.result.1.now) c.pass_runs.ensures.chained

pub returns-in-Ok-clause-found : goal.returns-in-Ok-clause-found
returns-in-Ok-clause-found g c =
    let k = c.args.key.now in
    let left = c.pass_runs.result.0.now in
    sym (find_at g.K.Ord.cmp k left c.in-Ok.at c.index-left-at.result c.in-Ok.ensures.found)
    ∙ sym (find_falls g.K.Ord.cmp g.met.K.Ord.total k left (viewed c.pass_runs.result.1.now) 0 c.pass_runs.ensures.chained c.pass_runs.ensures.falls)
    ∙ c.pass_runs.ensures.same k (not_itself g.K.Ord.cmp g.met.K.Ord.total k) ∙ ap (find g.K.Ord.cmp k) c.self.view_is

pub returns-in-Ok-clause-after : goal.returns-in-Ok-clause-after
returns-in-Ok-clause-after g c k less =
    let left = c.pass_runs.result.0.now in
    let ys = later (viewed c.pass_runs.result.1.now) in
    ap (λ es. find g.K.Ord.cmp k (es ++ ys)) (rest_is (c.in-Ok.at + 1) left) ∙ after_next g.K.Ord.cmp g.met.K.Ord.total c.args.key.now left ys c.in-Ok.at c.in-Ok.ensures.found k less
    ∙ c.pass_runs.ensures.same k (not_below g.K.Ord.cmp g.met.K.Ord.total c.args.key.now k less) ∙ ap (find g.K.Ord.cmp k) c.self.view_is

pub returns-in-Err-clause-found : goal.returns-in-Err-clause-found
returns-in-Err-clause-found g c =
    let k = c.args.key.now in
    let left = c.pass_runs.result.0.now in
    sym (find_gap g.K.Ord.cmp k g.met.K.Ord.total left c.in-Err.at c.pass_runs.ensures.sorted c.in-Err.ensures.absent)
    ∙ sym (find_falls g.K.Ord.cmp g.met.K.Ord.total k left (viewed c.pass_runs.result.1.now) 0 c.pass_runs.ensures.chained c.pass_runs.ensures.falls)
    ∙ c.pass_runs.ensures.same k (not_itself g.K.Ord.cmp g.met.K.Ord.total k) ∙ ap (find g.K.Ord.cmp k) c.self.view_is

pub returns-in-Err-clause-after : goal.returns-in-Err-clause-after
returns-in-Err-clause-after g c k less =
    let left = c.pass_runs.result.0.now in
    let ys = later (viewed c.pass_runs.result.1.now) in
    ap (λ es. find g.K.Ord.cmp k (es ++ ys)) (rest_is c.in-Err.at left) ∙ after_gap g.K.Ord.cmp g.met.K.Ord.total c.args.key.now left ys c.in-Err.at c.in-Err.ensures.absent k less
    ∙ c.pass_runs.ensures.same k (not_below g.K.Ord.cmp g.met.K.Ord.total c.args.key.now k less) ∙ ap (find g.K.Ord.cmp k) c.self.view_is
