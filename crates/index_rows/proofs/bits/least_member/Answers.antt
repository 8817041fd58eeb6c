use Rattle.std.proofs.Common.{◌<◌, ◌≡◌, ◌≤◌}
use Rattle.index_rows.proofs.Prelude.{among_from_contains, arith, Bool, cmp_below, contains_from_among, get_or, get_or_default, IsAmong, IsMember, IsMember-within, length, List, subst, sym, ℕ, ◌∙◌}
use Rattle.index_rows.proofs.bits.least_member.Goals as goal

-- no member in the list is below `least`
below_all : (bits : List Bool) (nodes : List ℕ) (least : ℕ) → ((k : ℕ) → k < length nodes → IsMember bits (get_or nodes k 0) → least ≤ get_or nodes k 0) → (w : ℕ) → IsMember bits w → IsAmong w nodes → least ≤ w
below_all bits nodes least h w m a =
    let k = contains_from_among w nodes a in
    let e : get_or nodes k.0 0 ≡ w = get_or_default nodes k.0 0 w k.1 ∙ k.2 in
    subst (λ v. least ≤ v) e (h k.0 k.1 (subst (IsMember bits) (sym e) m))

pub returns-then-least-bits : goal.returns-then-least-bits
returns-then-least-bits c =
    let found = c.loop-node.invariant.found c.if-least-bits.true in
    let low = below_all c.args.bits.now c.args.nodes.now c.loop-node.least (λ k l. c.loop-node.invariant.least k (omega (arith, l))) in
    record {
      member = (among_from_contains c.loop-node.least c.args.nodes.now found.1, found.0);
      least = λ v m h. (let a = low v m.1 m.0 in let b = cmp_below v c.loop-node.least h in omega (arith, a, b));
    }

pub returns-else-least-bits : goal.returns-else-least-bits
returns-else-least-bits c = λ v h m.
    (let low = below_all c.args.bits.now c.args.nodes.now c.loop-node.least (λ k l. c.loop-node.invariant.least k (omega (arith, l))) in
    let a = low v m h in
    let b = IsMember-within c.args.bits.now v m in
    let d = c.if-least-bits.false in
    omega (arith, a, b, d))
