use Rattle.std.proofs.Common.{◌<◌, ◌≡◌, ◌≤◌}
use Rattle.chunked_pairs.proofs.{Lengths.{fit_at, fit_gap, fit_last, none_at, none_from}, Prelude.{arith, get_or, length, subst, viewed}, Views.{length_viewed, viewed_get}}
use Rattle.chunked_pairs.proofs.chunks.Chunks.fitting.Goals as goal

pub returns-then-at-len-clause-falls : goal.returns-then-at-len-clause-falls
returns-then-at-len-clause-falls g c =
    let all : length (viewed c.self.inside.more.items) ≤ c.args.at = omega (arith, length_viewed c.self.inside.more.items) in
    fit_last g.K.Ord.cmp g.met.K.Ord.total c.args.self.now.1 c.args.at c.args.pairs.now c.requires.sorted c.requires.falls (subst (λ v. length v.1 ≤ c.args.at) c.self.view_is all)

pub returns-in-Ok : goal.returns-in-Ok
returns-in-Ok g c =
    let lt : c.args.at < length c.self.inside.more.items = omega arith in
    let under : c.args.at < length (viewed c.self.inside.more.items) = omega (arith, length_viewed c.self.inside.more.items) in
    let fit = fit_at g.K.Ord.cmp g.met.K.Ord.total c.index.result.now.0 c.args.self.now.1 c.args.at
    (λ d. subst (λ v. c.index.result.now.0 ≡ (get_or v.1 c.args.at d).0) c.self.view_is (viewed_get c.self.inside.more.items c.args.at c.index.result.now d lt c.index.ensures))
    (subst (λ v. c.args.at < length v.1) c.self.view_is under)
    c.args.pairs.now c.in-Ok.fitting c.requires.sorted c.requires.some c.requires.falls c.in-Ok.ensures.found in
    let most = none_at g.K.Ord.cmp g.met.K.Ord.total c.index.result.now.0 c.args.self.now.1 c.args.at
    (λ d. subst (λ v. c.index.result.now.0 ≡ (get_or v.1 c.args.at d).0) c.self.view_is (viewed_get c.self.inside.more.items c.args.at c.index.result.now d lt c.index.ensures))
    (subst (λ v. c.args.at < length v.1) c.self.view_is under) c.args.pairs.now c.in-Ok.fitting in
    record { some = fit.0; within = omega (arith, c.in-Ok.ensures.at_within); falls = fit.1; most = λ _ d. most d c.in-Ok.ensures.found }

pub returns-in-Err : goal.returns-in-Err
returns-in-Err g c =
    let lt : c.args.at < length c.self.inside.more.items = omega arith in
    let under : c.args.at < length (viewed c.self.inside.more.items) = omega (arith, length_viewed c.self.inside.more.items) in
    let fit = fit_gap g.K.Ord.cmp g.met.K.Ord.total c.index.result.now.0 c.args.self.now.1 c.args.at
    (λ d. subst (λ v. c.index.result.now.0 ≡ (get_or v.1 c.args.at d).0) c.self.view_is (viewed_get c.self.inside.more.items c.args.at c.index.result.now d lt c.index.ensures))
    (subst (λ v. c.args.at < length v.1) c.self.view_is under)
    c.args.pairs.now c.in-Err.fitting c.requires.sorted c.requires.some c.requires.falls c.in-Err.ensures.absent in
    let most = none_from g.K.Ord.cmp g.met.K.Ord.total c.index.result.now.0 c.args.self.now.1 c.args.at
    (λ d. subst (λ v. c.index.result.now.0 ≡ (get_or v.1 c.args.at d).0) c.self.view_is (viewed_get c.self.inside.more.items c.args.at c.index.result.now d lt c.index.ensures))
    (subst (λ v. c.args.at < length v.1) c.self.view_is under) c.args.pairs.now c.in-Err.fitting in
    record { some = fit.0; within = c.in-Err.ensures.gap_within; falls = fit.1; most = λ more d. most d c.in-Err.ensures.absent more }
