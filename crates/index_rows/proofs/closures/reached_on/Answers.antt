use Rattle.std.proofs.Common.{◌<◌}
use Rattle.index_rows.proofs.{Levels.{IsSpread-append}, Prelude.{[], arith, empty_list, IsAmong-push, IsMember-within, LeadsOn, length, List, subst, vec_len, ℕ, ◌∙◌}, Spreading.{IsSpread-none}, Walks.{walk_goes_on, walk_stays}}
use Rattle.index_rows.proofs.Works.{IsWork, IsWork-done, IsWork-step}
use Rattle.index_rows.proofs.closures.reached_on.Goals as goal

pub bounds-going-node : goal.bounds-going-node
bounds-going-node c =
    let P : List ℕ → Type 0 = λ t. IsWork (length c.args.going.now) (LeadsOn c.args.firm.now c.args.weak.now c.args.inside.now c.args.going.now) c.args.sources.now c.loop-node.seen.items t in
    let w = subst P c.in-Some.ensures.items c.loop-node.invariant in
    let lt : c.in-Some.node < length c.loop-node.seen.items = IsMember-within _ _ (w.noted c.in-Some.node (IsAmong-push c.in-Some.node c.pop.new.self.items)) in
    omega (arith, lt, w.units)

pub loop-node-preserved : goal.loop-node-preserved
loop-node-preserved c =
    let P : List ℕ → Type 0 = λ t. IsWork (length c.args.going.now) (LeadsOn c.args.firm.now c.args.weak.now c.args.inside.now c.args.going.now) c.args.sources.now c.loop-node.seen.items t in
    let w = subst P c.in-Some.ensures.items c.loop-node.invariant in
    let leads = walk_goes_on (length c.args.going.now) c.args.firm.now c.args.weak.now c.args.inside.now c.args.going.now c.deref.result.now c.in-Some.node (c.deref.ensures.value ∙ c.in_ok-all.ensures.all) c.requires.firm c.if-not-going-node.false in
    IsWork-step _ _ _ c.in-Some.node _ _ _ _ _ leads w (IsSpread-append _ _ _ _ _ _ _ _ c.in_ok-spread-2.ensures.spread c.in_ok-spread-3.ensures.spread)

pub loop-node-preserved-then-not-going-node : goal.loop-node-preserved-then-not-going-node
loop-node-preserved-then-not-going-node c =
    let P : List ℕ → Type 0 = λ t. IsWork (length c.args.going.now) (LeadsOn c.args.firm.now c.args.weak.now c.args.inside.now c.args.going.now) c.args.sources.now c.loop-node.seen.items t in
    let w = subst P c.in-Some.ensures.items c.loop-node.invariant in
    let stays = walk_stays (length c.args.going.now) c.args.firm.now c.args.weak.now c.args.inside.now c.args.going.now [] c.in-Some.node (λ m. cc (m, c.if-not-going-node.true)) in
    IsWork-step _ _ _ c.in-Some.node [] _ _ _ _ stays w (IsSpread-none c.loop-node.seen.items c.pop.new.self.items)

pub returns-clause-reached : goal.returns-clause-reached
returns-clause-reached c =
    let out : ¬ (0 < vec_len c.loop-node.todo) = λ l. cc (c.in_default.ensures.variant.1 l) in
    IsWork-done (length c.args.going.now) (LeadsOn c.args.firm.now c.args.weak.now c.args.inside.now c.args.going.now) c.args.sources.now c.loop-node.seen.items c.loop-node.todo.items (empty_list _ (omega (arith, c.loop-node.todo.ok))) c.loop-node.invariant
