use Rattle.start_order.proofs.{Left.{left_blocked, left_is, left_stuck, none_left, stuck_left}, Prelude.{cycle_along, IsMember, IsStuck, nat_cmp, Precedes}}
use Rattle.start_order.proofs.orders.start_order.Goals as goal

pub cycle_from-requires-clause-blocked : goal.cycle_from-requires-clause-blocked
cycle_from-requires-clause-blocked c =
    left_blocked _ _ _ _ _ (left_is _ _ _ _ _ c.args.before.now _ c.in_ok-list.ensures.list c.in_ok-list.ensures.bits c.deref.ensures.value c.in_ok-left.ensures.left c.deref-in-Some.ensures.value)

pub returns-in-None-clause-none_stuck : goal.returns-in-None-clause-none_stuck
returns-in-None-clause-none_stuck c = λ u s. c.in-None.ensures u
    (stuck_left _ _ _ _ _ (left_is _ _ _ _ _ c.args.before.now _ c.in_ok-list.ensures.list c.in_ok-list.ensures.bits c.deref.ensures.value c.in_ok-left.ensures.left c.deref-2.ensures.value) u s)

pub returns-in-None-clause-all : goal.returns-in-None-clause-all
returns-in-None-clause-all c =
    none_left _ _ _ _ _ (left_is _ _ _ _ _ c.args.before.now _ c.in_ok-list.ensures.list c.in_ok-list.ensures.bits c.deref.ensures.value c.in_ok-left.ensures.left c.deref-2.ensures.value) c.in-None.ensures

pub returns-in_ok-cycle_from-in-Some-clause-cycle : goal.returns-in_ok-cycle_from-in-Some-clause-cycle
returns-in_ok-cycle_from-in-Some-clause-cycle c =
    let left = left_is c.args.chosen.now c.in_ok-list.standing.items c.deref.result.now c.in_ok-left.left.items c.deref-in-Some.result.now c.args.before.now c.in_ok-list.list.items
    c.in_ok-list.ensures.list c.in_ok-list.ensures.bits c.deref.ensures.value c.in_ok-left.ensures.left c.deref-in-Some.ensures.value in
    cycle_along nat_cmp (IsMember c.deref-in-Some.result.now) (IsStuck (IsMember c.args.chosen.now) (Precedes c.args.before.now)) (Precedes c.args.before.now)
    (left_stuck _ _ _ _ _ left) (stuck_left _ _ _ _ _ left) _ c.in_ok-cycle_from-in-Some.ensures
