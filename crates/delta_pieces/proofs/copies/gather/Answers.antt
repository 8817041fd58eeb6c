use Rattle.std.proofs.Common.{◌-◌, ◌≡◌}
use Rattle.delta_pieces.proofs.{Joined.{dropped_first, joined_all, joined_none, none_taken, sum_at, taken_first}, Prelude.{ap, arith, join, refl, take, ◌∙◌}}
use Rattle.delta_pieces.proofs.copies.gather.Goals as goal

pub loop-left-init : goal.loop-left-init
loop-left-init c = record { gathered = joined_all c.new-store.result (take c.args.most c.args.entries.now) c.new-store.ensures.empty; rest = refl }

pub loop-left-preserved : goal.loop-left-preserved
loop-left-preserved c =
    let some = c.loop-left-test.true in
    let n = c.loop-left.left in
    let first = c.in-Some.ensures.first in
    record {
      gathered =
          ap (λ s. join s (sum_at (take (n - 1) c.next_entry.new.self))) c.in_ok-join_copy.ensures.ok
          ∙ taken_first c.loop-left.store c.in-Some.placed c.next_entry.new.self c.loop-left.entries first n (n - 1) (omega (arith, some)) _ c.loop-left.invariant.gathered;
      rest = dropped_first c.loop-left.store c.in-Some.placed c.next_entry.new.self c.loop-left.entries first n (n - 1) (omega (arith, some)) _ c.loop-left.invariant.rest;
    }

pub returns-in_default-clause-gathered : goal.returns-in_default-clause-gathered
returns-in_default-clause-gathered c =
    joined_none c.loop-left.store (take c.loop-left.left c.loop-left.entries) (none_taken c.loop-left.left c.loop-left.entries c.in_default.ensures.first.0)
    ∙ c.loop-left.invariant.gathered

pub returns-clause-gathered : goal.returns-clause-gathered
returns-clause-gathered c =
    let none = c.loop-left-test.false in
    let zero : c.loop-left.left ≡ 0 = omega (arith, none) in
    joined_none c.loop-left.store (take c.loop-left.left c.loop-left.entries) (ap (λ n. take n c.loop-left.entries) zero)
    ∙ c.loop-left.invariant.gathered
