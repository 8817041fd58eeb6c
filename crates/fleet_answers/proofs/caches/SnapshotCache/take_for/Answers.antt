use Rattle.std.proofs.Common.{◌≤◌}
use Rattle.fleet_answers.proofs.Prelude.{arith}
use Rattle.fleet_answers.proofs.caches.SnapshotCache.take_for.Goals as goal

pub overflow_sub-len : goal.overflow_sub-len
overflow_sub-len c =
    let w = (c.in_ok-one.ensures.taken c.args.store.now c.requires.cache).within in
    omega (arith, w, c.len.ensures, c.take.new.self.touched.ok)

pub returns-then-len-one-gt-MOST_TOUCHED-clause-cache : goal.returns-then-len-one-gt-MOST_TOUCHED-clause-cache
returns-then-len-one-gt-MOST_TOUCHED-clause-cache c = c.in_ok-one.ensures.kept c.args.store.now c.requires.cache

pub returns-clause-these : goal.returns-clause-these
returns-clause-these c = c.serves.ensures.these c.if-not-serves.false

pub returns-clause-those : goal.returns-clause-those
returns-clause-those c = c.serves.ensures.those c.if-not-serves.false

pub returns-clause-taken : goal.returns-clause-taken
returns-clause-taken c = c.in_ok-one.ensures.taken c.args.store.now c.requires.cache

pub returns-in_err-one-clause-cache : goal.returns-in_err-one-clause-cache
returns-in_err-one-clause-cache c = c.take.ensures.kept c.args.store.now c.requires.cache

pub returns-clause-cache : goal.returns-clause-cache
returns-clause-cache c = c.take.ensures.kept c.args.store.now c.requires.cache
