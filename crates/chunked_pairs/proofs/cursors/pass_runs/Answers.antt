use Rattle.std.proofs.Common.{◌-◌, ◌≤◌}
use Rattle.chunked_pairs.proofs.{Passes.{passed_runs, rest_is}, Prelude.{ap, arith, drop, FallsTo, first_run, length, separators_sorted, subst, sym, take, viewed, ◌∙◌}, Views.{length_viewed, run_here, viewed_drop}}
use Rattle.chunked_pairs.proofs.cursors.pass_runs.Goals as goal

pub run_among-at-requires : goal.run_among-at-requires
run_among-at-requires g c = record { sorted = separators_sorted g.K.Ord.cmp g.met.K.Ord.total c.args.left.now (viewed c.args.more.now) c.requires.chained }

pub returns-then-at-eq0-clause-sorted : goal.returns-then-at-eq0-clause-sorted
returns-then-at-eq0-clause-sorted g c = (first_run g.K.Ord.cmp g.met.K.Ord.total c.args.left.now (viewed c.args.more.now) c.requires.chained).sorted

pub returns-then-at-eq0-clause-falls : goal.returns-then-at-eq0-clause-falls
returns-then-at-eq0-clause-falls g c = subst (FallsTo g.K.Ord.cmp c.args.key.now (viewed c.args.more.now)) c.if-at-eq0.true c.run_among-at.ensures.falls

pub returns : goal.returns
returns g c =
    let more = c.args.more.now in
    let at = c.run_among-at.result in
    let within : at ≤ length more = c.run_among-at.ensures.within in
    let le : at ≤ length (viewed more) = omega (arith, length_viewed more, within) in
    let here = run_here c.args.left.now more at (at - 1) c.index-more-at.result (omega arith) (omega arith) c.index-more-at.is in
    let rest = ap viewed (rest_is at more) ∙ viewed_drop more at in
    let passed = passed_runs g.K.Ord.cmp g.met.K.Ord.total c.args.key.now c.args.left.now c.deref.result.now (viewed more) (viewed (take (length more - at) (drop at more))) at le (c.deref.ensures.value ∙ sym here) rest c.requires.chained c.run_among-at.ensures.falls in
    record {
      chained = passed.0;
      sorted = (first_run g.K.Ord.cmp g.met.K.Ord.total c.deref.result.now (viewed (take (length more - at) (drop at more))) passed.0).sorted;
      falls = passed.1;
      same = passed.2;
    }
