use Rattle.plain_values.proofs.{Prelude.{arith, sym, ◌∙◌}, Spelled.{by_lengths}}
use Rattle.plain_values.proofs.orders.order_of_few.Goals as goal

pub returns : goal.returns
returns c =
    let shared = c.min-shared.ensures in
    let end = c.loop-place.auto.place-end in
    let past = c.loop-place-test.false in
    record { order = c.cmp-2.ensures ∙ sym (c.loop-place.invariant ∙ by_lengths c.args.a.now c.args.b.now c.loop-place.place (omega (arith, shared, end, past))) }
