use Rattle.std.proofs.Common.{◌<◌, ◌≡◌, ◌≤◌}
use Rattle.start_order.proofs.{Prelude.{ap, drop, get_or, IsCycle, IsMember, length, List, nat_cmp, Precedes, reverse, subst, sym, ℕ, ◌∙◌}, Rings.{cycle_of_walk}}
use Rattle.start_order.proofs.cycles.cycle_from.Goals as goal

pub returns : goal.returns
returns c =
    let ring_is : c.reverse.new.self.items ≡ reverse (drop c.position_of.result c.in_ok-met.met.items) = c.reverse.ensures.items ∙ ap reverse (c.in_ok-ring.ensures.items ∙ c.split_at.ensures.back ∙ ap (drop c.position_of.result) c.deref.ensures.value) in
    let L : List ℕ → Type 0 = λ l. (k : ℕ) → k < length l → get_or l c.least_at-first.result 0 ≤ get_or l k 0 in
    let W : List ℕ → Type 0 = λ l. c.least_at-first.result < length l in
    let E : List ℕ → Type 0 = λ l. c.position_of.result < length l in
    let A : List ℕ → Type 0 = λ l. get_or l c.position_of.result 0 ≡ c.in_ok-met.next in
    let P : List ℕ → Type 0 = λ l. IsCycle nat_cmp (IsMember c.args.stuck.now) (Precedes c.args.before.now) l in
    subst P (sym c.rotate_left.ensures.items)
    (cycle_of_walk (IsMember c.args.stuck.now) (Precedes c.args.before.now) c.in_ok-met.met.items c.in_ok-met.next c.position_of.result c.least_at-first.result c.reverse.new.self.items c.in_ok-met.ensures.walk
    (subst E c.deref-2.ensures.value c.position_of.ensures.within) (subst A c.deref-2.ensures.value c.position_of.ensures.at) ring_is
    (subst W c.deref-3.ensures.value c.least_at-first.ensures.within) (subst L c.deref-3.ensures.value c.least_at-first.ensures.least))
