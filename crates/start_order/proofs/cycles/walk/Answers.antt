use Rattle.std.proofs.Common.{◌++◌, ◌<◌, ◌↔◌, ◌∷◌, ◌≡◌}
use Rattle.start_order.proofs.Prelude.{[], arith, IsAmong, IsMember, IsMember-within, IsWalk, length, length-set, List, member_read, non_members_read, Precedes, set, subst, sym, true, unset-set, ℕ, ◌∙◌}
use Rattle.start_order.proofs.Rings.{agree_push, IsWalk-more}
use Rattle.start_order.proofs.cycles.walk.Goals as goal

within : (c : goal.After-blocker-next) → c.loop-met.next < length c.loop-met.seen.items
within c = (let l = IsMember-within c.args.stuck.now c.loop-met.next c.loop-met.invariant.stuck in omega (arith, l, c.loop-met.invariant.units))

fresh : (c : goal.After-blocker-next) → ¬ IsMember c.loop-met.seen.items c.loop-met.next
fresh c = non_members_read c.loop-met.seen.items c.loop-met.next c.index.result.now c.index.ensures (within c) c.loop-met-test.true

pub loop-met-smaller : goal.loop-met-smaller
loop-met-smaller c = let e = unset-set c.loop-met.seen.items c.loop-met.next (within c) (fresh c) in omega (arith, e)

pub loop-met-preserved : goal.loop-met-preserved
loop-met-preserved c =
    let items : c.push.new.self.items ≡ c.loop-met.met.items ++ c.loop-met.next ∷ [] = c.in_ok-push.ensures.items in
    let agree = agree_push c.loop-met.seen.items c.loop-met.met.items c.loop-met.next (within c) c.loop-met.invariant.agree in
    let P : List ℕ → Type 0 = λ t. (v : ℕ) → IsMember (set c.loop-met.seen.items c.loop-met.next true) v ↔ IsAmong v t in
    let Q : List ℕ → Type 0 = λ t. IsWalk (IsMember c.args.stuck.now) (Precedes c.args.before.now) t c.blocker-next.result in
    record {
      units = length-set c.loop-met.seen.items c.loop-met.next true ∙ c.loop-met.invariant.units;
      agree = subst P (sym items) agree;
      walk = subst Q (sym items) (IsWalk-more _ _ _ _ _ c.loop-met.invariant.walk (λ h. fresh c ((c.loop-met.invariant.agree _).1 h)) c.blocker-next.ensures);
      stuck = c.blocker-next.ensures.member.0;
    }

pub returns-clause-met : goal.returns-clause-met
returns-clause-met c =
    let l = IsMember-within c.args.stuck.now c.loop-met.next c.loop-met.invariant.stuck in
    (c.loop-met.invariant.agree c.loop-met.next).0 (member_read c.loop-met.seen.items c.loop-met.next c.index.result.now c.index.ensures (omega (arith, l, c.loop-met.invariant.units)) c.loop-met-test.false)
