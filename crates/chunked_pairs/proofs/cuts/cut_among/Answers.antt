use Rattle.std.proofs.Common.{◌-◌, ◌<◌}
use Rattle.chunked_pairs.proofs.{CutEdits.{err_behind, err_first, ok_behind, ok_first}, Prelude.{arith, in_runs, length, refl, run_at, set, subst, take, viewed}, Views.{run_here, with_here}}
use Rattle.chunked_pairs.proofs.cuts.cut_among.Goals as goal

pub cut_off-requires : goal.cut_off-requires
cut_off-requires g c = record { cut = subst (λ n. c.args.cut < length (run_at c.args.first.now.items (viewed c.args.more.now.items) n)) c.if-at-eq0.true c.requires.cut }

pub returns-then-at-eq0 : goal.returns-then-at-eq0
returns-then-at-eq0 g c =
    rw c.if-at-eq0.true
    (record {
      front = ok_first c.cut_off.result c.cut_off.new.run.items (take c.args.cut c.args.first.now.items) (viewed c.args.more.now.items) c.cut_off.ensures.front;
      back = c.cut_off.ensures.back;
      least = c.cut_off.ensures.least;
      err = err_first c.cut_off.result c.cut_off.new.run c.args.first.now (viewed c.args.more.now.items) c.cut_off.ensures.err;
      len = refl;
      capacity = refl;
    })

pub cut_off-requires-2 : goal.cut_off-requires-2
cut_off-requires-2 g c =
    let here = run_here c.args.first.now.items c.args.more.now.items c.args.at (c.args.at - 1) c.index_mut-place.result.now (omega arith) (omega arith) c.index_mut-place.ensures.value in
    record { cut = subst (λ l. c.args.cut < length l) here c.requires.cut }

pub returns : goal.returns
returns g c =
    let first = c.args.first.now.items in
    let more = c.args.more.now.items in
    let place = c.index_mut-place.result.now in
    let new = c.cut_off-2.new.run in
    let here = run_here first more c.args.at (c.args.at - 1) place (omega arith) (omega arith) c.index_mut-place.ensures.value in
    let is = with_here first more c.args.at (c.args.at - 1) place new (omega arith) (omega arith) c.index_mut-place.ensures.value in
    let set_in = in_runs first (viewed (set more (c.args.at - 1) (place.0, new))) in
    rw here
    (record {
      front = ok_behind c.cut_off-2.result set_in first (viewed more) c.args.at new.items (take c.args.cut place.1.items) is c.cut_off-2.ensures.front;
      back = c.cut_off-2.ensures.back;
      least = c.cut_off-2.ensures.least;
      err = err_behind c.cut_off-2.result set_in first (viewed more) c.args.at new place.1 is here c.cut_off-2.ensures.err;
      len = refl;
      capacity = refl;
    })
