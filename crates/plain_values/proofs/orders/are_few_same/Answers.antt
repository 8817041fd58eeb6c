use Rattle.plain_values.proofs.{Prelude.{ap, is_eq, sym, ◌∙◌}, Spelled.{left_decides, other_words}}
use Rattle.plain_values.proofs.orders.are_few_same.Goals as goal

pub returns-then-first_half : goal.returns-then-first_half
returns-then-first_half c = record {
  same = other_words 4 c.args.a.now c.args.b.now _ _ c.if-a-lt-HALF.false c.if-b-lt-HALF.false c.type_inv.a c.type_inv.b c.first_half.ensures.half c.first_half-2.ensures.half c.if-first_half.true;
}

pub returns : goal.returns
returns c =
    let alike = sym c.first_half.ensures.half ∙ c.if-first_half.false ∙ c.first_half-2.ensures.half in
    record { same = c.is_eq-2.ensures ∙ ap is_eq (c.order_of_few-2.ensures.order ∙ left_decides 4 c.args.a.now c.args.b.now c.if-a-lt-HALF.false c.if-b-lt-HALF.false c.type_inv.a c.type_inv.b alike) }
