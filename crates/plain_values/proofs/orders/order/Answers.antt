use Rattle.plain_values.proofs.{Prelude.{arith, refl, sym, ◌∙◌}, Spelled.{decided, left_bytes, left_decides}}
use Rattle.plain_values.proofs.orders.order.Goals as goal

pub loop-a_left-init : goal.loop-a_left-init
loop-a_left-init c = (refl, c.type_inv.a, c.type_inv.b)

pub returns-then-x-y : goal.returns-then-x-y
returns-then-x-y c =
    let left = c.loop-a_left.invariant in
    record { order = c.cmp.ensures ∙ decided 8 c.loop-a_left.a_left.now c.loop-a_left.b_left.now _ _ (omega arith) (omega arith) left.1 left.2 c.first_word-x.ensures.word c.first_word-y.ensures.word c.if-x-y.true ∙ left.0 }

pub loop-a_left-preserved : goal.loop-a_left-preserved
loop-a_left-preserved c =
    let left = c.loop-a_left.invariant in
    let same = sym c.first_word-x.ensures.word ∙ c.if-x-y.false ∙ c.first_word-y.ensures.word in (
      left_decides 8 c.loop-a_left.a_left.now c.loop-a_left.b_left.now (omega arith) (omega arith) left.1 left.2 same ∙ left.0,
      left_bytes 8 c.loop-a_left.a_left.now left.1,
      left_bytes 8 c.loop-a_left.b_left.now left.2,
    )
