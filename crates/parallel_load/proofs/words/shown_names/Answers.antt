use Rattle.parallel_load.proofs.{Keeping.{order_ascends, order_stays}, Prelude.{arith, dedup_is, eq_by_cmp, name_cmp}, Rows.{names_are_shown, one_level_more}}
use Rattle.parallel_load.proofs.words.shown_names.Goals as goal

pub loop-level-preserved : goal.loop-level-preserved
loop-level-preserved c =
    let lvl = c.loop-level-test.true in
    (one_level_more c.args.view.now c.loop-level.level c.loop-level.names.items c.add_shown.new.names.items c.loop-level.invariant.0 c.in_ok-add_shown.ensures.added, omega arith)

pub returns-clause-ascending : goal.returns-clause-ascending
returns-clause-ascending c =
    order_ascends c.loop-level.names.items c.sort_unstable.new.self.items c.dedup.new.self.items c.sort_unstable.ensures.permutation c.sort_unstable.ensures.sorted
    (dedup_is (eq_by_cmp name_cmp) _ _ c.dedup.ensures.filtered)

pub returns-clause-shown : goal.returns-clause-shown
returns-clause-shown c n =
    let within = c.loop-level.invariant.1 in
    let no = c.loop-level-test.false in
    let stays = order_stays c.loop-level.names.items c.sort_unstable.new.self.items c.dedup.new.self.items c.sort_unstable.ensures.permutation c.sort_unstable.ensures.sorted
    (dedup_is (eq_by_cmp name_cmp) _ _ c.dedup.ensures.filtered) n in
    let shown = names_are_shown c.args.view.now c.loop-level.names.items c.loop-level.level c.loop-level.invariant.0 (omega arith) n in
    (λ h. shown.0 (stays.0 h), λ h. stays.1 (shown.1 h))
