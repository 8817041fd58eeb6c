use Rattle.std.proofs.Common.{◌<◌, ◌==◌, ◌≡◌}
use Rattle.index_rows.proofs.Prelude.{All, among_from_contains, arith, Bool, cases_eq, Contains-get_or, empty_list, eq-eqb, false, get_or, inl, inr, IsAmong, IsMember-within, length, ne_eqb, subst, successors_from, sym, true, vec_len, ℕ}
use Rattle.index_rows.proofs.Levels.{IsLevel-done, IsLevel-init, IsLevel-next}
use Rattle.index_rows.proofs.shortest.distances.Goals as goal

pub loop-alloc-init : goal.loop-alloc-init
loop-alloc-init c = IsLevel-init c.args.count (successors_from c.args.successors.now) c.args.sources.now _ _ _ _ _ c.in_ok-seen.ensures.none c.new-level.ensures.items c.new-pairs.ensures.items c.in_ok-spread.ensures

pub next_level-requires-clause-level : goal.next_level-requires-clause-level
next_level-requires-clause-level c =
    let h = c.loop-alloc.invariant in
    subst (λ l. All (λ v. v < length c.loop-alloc.seen.items) l) (sym c.deref-in-loop-alloc-2.ensures.value)
    (λ k d lt.
    (let a : IsAmong (get_or c.put_in_order.new.nodes.items k d) c.put_in_order.new.nodes.items = among_from_contains _ c.put_in_order.new.nodes.items (Contains-get_or c.put_in_order.new.nodes.items k d lt) in
    let at = h.level_at (get_or c.put_in_order.new.nodes.items k d) ((c.put_in_order.ensures.members (get_or c.put_in_order.new.nodes.items k d)).0 a) in
    let w = IsMember-within c.loop-alloc.seen.items (get_or c.put_in_order.new.nodes.items k d) (h.near c.loop-alloc.distance (get_or c.put_in_order.new.nodes.items k d) (omega arith) at.chain) in
    w))

-- what a test for emptiness says
empty_when : (n : ℕ) (b : Bool) → b ≡ (n == 0) → b ≡ true → n ≡ 0
empty_when n b e t = elim (cases_eq n 0) [ inl z ↦ z | inr ne ↦ (let f = ne_eqb n 0 ne in cc) ]

some_when : (n : ℕ) (b : Bool) → b ≡ (n == 0) → b ≡ false → 0 < n
some_when n b e f = (let out : ¬ (n ≡ 0) = λ z. (let g = eq-eqb n 0 z in cc) in omega arith)

pub loop-alloc-preserved : goal.loop-alloc-preserved
loop-alloc-preserved c =
    let some : 0 < length c.loop-alloc.level.items = (let a = some_when (vec_len c.loop-alloc.level) c.is_empty.result c.is_empty.ensures c.loop-alloc-test.true in omega (arith, a, c.loop-alloc.level.ok)) in
    let more = rw c.deref.ensures.value at c.in_ok-push_level.ensures in
    let spread = rw c.deref-in-loop-alloc-2.ensures.value at c.in_ok-level.ensures in
    IsLevel-next c.args.count (successors_from c.args.successors.now) c.args.sources.now c.loop-alloc.distance c.loop-alloc.seen.items c.loop-alloc.level.items c.put_in_order.new.nodes.items c.loop-alloc.pairs.items c.loop-alloc.invariant
    c.put_in_order.ensures.ascending c.put_in_order.ensures.members some c.next_level.new.seen.items c.in_ok-level.level.items c.push_level.new.pairs.items more spread

pub returns : goal.returns
returns c =
    let none : length c.loop-alloc.level.items ≡ 0 = (let a = empty_when (vec_len c.loop-alloc.level) c.is_empty.result c.is_empty.ensures c.loop-alloc-test.false in omega (arith, a, c.loop-alloc.level.ok)) in
    IsLevel-done c.args.count (successors_from c.args.successors.now) c.args.sources.now c.loop-alloc.distance c.loop-alloc.seen.items c.loop-alloc.level.items c.loop-alloc.pairs.items (empty_list c.loop-alloc.level.items none) c.loop-alloc.invariant
