use Rattle.std.proofs.Common.{◌++◌, ◌<◌, ◌↔◌, ◌∷◌, ◌≡◌, ◌≤◌}
use Rattle.start_order.proofs.Prelude.{[], All, All-neighbors, arith, Bool, get_or, IsAmong, IsMember, length, List, neighbors_of, set, subst, sym, times, true, unset-set, ℕ}
use Rattle.start_order.proofs.States.{done, enough_of, IsState, IsState-begin, non_members_of, step, within_of}
use Rattle.start_order.proofs.orders.listed.Goals as goal

-- what can start at first
free_at_first : (chosen : List Bool) (counts : List ℕ) (ready read : List Bool) (free : List ℕ) → read ≡ ready → ((v : ℕ) → IsAmong v free ↔ IsMember read v)
    → ((v : ℕ) → IsMember ready v ↔ (IsMember chosen v × (get_or counts v 0 ≡ 0))) → (v : ℕ) → IsAmong v free ↔ (IsMember chosen v × (get_or counts v 0 ≡ 0))
free_at_first chosen counts ready read free e f r v =
    let P : List Bool → Type 0 = λ m. IsAmong v free ↔ IsMember m v in
    let g = subst P e (f v) in
    (λ h. (r v).0 (g.0 h), λ h. g.1 ((r v).1 h))

pub loop-node-init : goal.loop-node-init
loop-node-init c =
    IsState-begin _ _ _ _ _ _ _ _ c.in_ok-standing.ensures.none c.deref.ensures.value c.deref-2.ensures.value c.new-list.ensures.items c.requires.before.one_each
    c.in_ok-counts.ensures.units c.in_ok-counts.ensures.counts
    (free_at_first c.args.chosen.now c.deref-2.result.now c.in_ok-ready.field-0.items c.deref-3.result.now c.in_ok-free.free c.deref-3.ensures.value c.in_ok-free.ensures.free c.in_ok-ready.ensures)

pub index_mut-requires : goal.index_mut-requires
index_mut-requires c = let a = within_of _ _ _ _ _ _ c.loop-node.invariant c.in-Some.node c.in-Some.ensures.least.0 in omega (arith, a, c.loop-node.invariant.units, c.loop-node.standing.ok)

pub neighbors-requires : goal.neighbors-requires
neighbors-requires c = let a = within_of _ _ _ _ _ _ c.loop-node.invariant c.in-Some.node c.in-Some.ensures.least.0 in omega (arith, a, c.requires.after.one_each)

pub lower-requires-clause-nodes : goal.lower-requires-clause-nodes
lower-requires-clause-nodes c =
    let P : List ℕ → Type 0 = λ r. All (λ v. v < length c.args.chosen.now) r in
    subst P (sym c.neighbors.ensures) (All-neighbors _ _ c.in-Some.node c.requires.after.within)

pub lower-requires-clause-enough : goal.lower-requires-clause-enough
lower-requires-clause-enough c v =
    let P : List ℕ → Type 0 = λ r. times v r ≤ get_or c.loop-node.counts.items v 0 in
    let e = c.requires.transposed c.in-Some.node v in
    subst P (sym c.neighbors.ensures) (enough_of _ _ _ _ _ _ c.loop-node.invariant c.in-Some.node c.in-Some.ensures.least.0 v _ e)

pub loop-node-smaller : goal.loop-node-smaller
loop-node-smaller c =
    let a = within_of _ _ _ _ _ _ c.loop-node.invariant c.in-Some.node c.in-Some.ensures.least.0 in
    let e = unset-set c.loop-node.standing.items c.in-Some.node (omega (arith, a, c.loop-node.invariant.units)) (non_members_of _ _ _ _ _ _ c.loop-node.invariant c.in-Some.node c.in-Some.ensures.least.0) in
    omega (arith, e)

pub loop-node-preserved : goal.loop-node-preserved
loop-node-preserved c =
    let items : c.push.new.self.items ≡ c.loop-node.list.items ++ c.in-Some.node ∷ [] = c.in_ok-push.ensures.items in
    let P : List ℕ → Type 0 = λ l. IsState c.args.chosen.now c.args.before.now (set c.loop-node.standing.items c.in-Some.node true) c.lower.new.counts.items l c.lower.new.free in
    let Q : List ℕ → Type 0 = λ r. (v : ℕ) → times v r ≡ times c.in-Some.node (neighbors_of c.args.before.now v) in
    let transposed = subst Q (sym c.neighbors.ensures) (c.requires.transposed c.in-Some.node) in
    subst P (sym items)
    (step _ _ _ _ _ _ c.loop-node.invariant c.in-Some.node c.in-Some.ensures.least.0 c.in-Some.ensures.least.1 _ _ _ _ c.in-Some.ensures.rest c.in_ok-lower.ensures transposed)

pub returns-clause-list : goal.returns-clause-list
returns-clause-list c = done _ _ _ _ _ _ c.loop-node.invariant c.in_default.ensures.least
