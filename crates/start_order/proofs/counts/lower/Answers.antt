use Rattle.std.proofs.Common.{◌+◌, ◌-◌, ◌<◌, ◌≡◌, ◌≤◌}
use Rattle.start_order.proofs.Prelude.{All, arith, Bool, false, get_or, get_or_default, IsLowered, length, List, take, take_more, times, times_room, true, ℕ, ◌∙◌}
use Rattle.start_order.proofs.{counts.lower.Goals.{else-chosen-other, else-chosen-other-via-else-chosen-other, else-chosen-other-via-then-chosen-other+else-count-eq0, then-chosen-other+then-count-eq0+in_ok-add}, Waiting.{IsLowered-at, IsLowered-more, later_no, later_yes}}
use Rattle.start_order.proofs.counts.lower.Goals as goal

unset_here : (b : Bool) → b ≡ false → ¬ (b ≡ true)
unset_here b e f = cc

-- the count of a node of the list, read at its position: it isn't 0 yet
record IsCountAt (nodes now : List ℕ) (i count : ℕ) : Type 0 where
  within : get_or nodes i 0 < length now
  read : count ≡ get_or now (get_or nodes i 0) 0
  some : 0 < count

count_at : (chosen : List Bool) (nodes old now had has : List ℕ) (i count : ℕ) → length old ≡ length chosen → All (λ v. v < length chosen) nodes
    → ((v : ℕ) → times v nodes ≤ get_or old v 0) → IsLowered chosen (take i nodes) old now had has → i < length nodes
    → count ≡ get_or now (get_or nodes i 0) count → IsCountAt nodes now i count
count_at chosen nodes old now had has i count units below enough lowered lt is =
    let node : ℕ = get_or nodes i 0 in
    let within : node < length now = omega (arith, below i 0 lt, lowered.units, units) in
    let read : count ≡ get_or now node 0 = is ∙ get_or_default now node count 0 within in
    record { within = within; read = read; some = omega (arith, lowered.counts node, enough node, times_room nodes i lt, read) }

pub overflow_sub-count : goal.overflow_sub-count
overflow_sub-count c =
    let here = count_at c.args.chosen.now c.args.nodes.now _ c.loop-other.counts.items _ _ c.loop-other.other-index c.index.result.now
    c.requires.units c.requires.nodes c.requires.enough c.loop-other.invariant c.loop-other-test.true c.index.ensures in
    omega (arith, here.some)

pub loop-other-preserved : goal.loop-other-preserved
loop-other-preserved c =
    let here = count_at c.args.chosen.now c.args.nodes.now _ c.loop-other.counts.items _ _ c.loop-other.other-index c.index.result.now
    c.requires.units c.requires.nodes c.requires.enough c.loop-other.invariant c.loop-other-test.true c.index.ensures in
    let at : get_or c.loop-other.counts.items (get_or c.args.nodes.now c.loop-other.other-index 0) 0 ≡ (c.index.result.now - 1) + 1 = omega (arith, here.read, here.some) in
    IsLowered-at _ _ _ _ _ _ _ (take_more c.args.nodes.now c.loop-other.other-index 0 c.loop-other-test.true)
    (IsLowered-more _ _ _ _ _ _ _ _ _ c.loop-other.invariant here.within at
    (elim c.if-chosen-other.branch [
      | then-chosen-other+then-count-eq0+in_ok-add w ↦
          later_yes _ _ _ _ _ _ w.if-chosen-other.true w.if-count-eq0.true w.free-is w.in_ok-add.ensures.added
      | else-chosen-other w ↦ elim w.else-chosen-other.branch [
        | else-chosen-other-via-then-chosen-other+else-count-eq0 v ↦
            later_no _ _ _ _ _ (λ m z. v.if-count-eq0.false z) w.free-is
        | else-chosen-other-via-else-chosen-other v ↦
            later_no _ _ _ _ _ (λ m z. unset_here _ v.if-chosen-other.false m) w.free-is
      ]
    ]))
