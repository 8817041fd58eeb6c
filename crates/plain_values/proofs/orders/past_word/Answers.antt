use Rattle.plain_values.proofs.{Prelude.{sym, ◌∙◌}, Spelled.{left_decides}}
use Rattle.plain_values.proofs.orders.past_word.Goals as goal

pub returns-clause-left : goal.returns-clause-left
returns-clause-left c =
    let alike = sym c.first_word.ensures.word ∙ c.if-first_word.false ∙ c.first_word-2.ensures.word in
    left_decides 8 c.args.a.now c.args.b.now c.requires.eight c.requires.other_eight c.type_inv.a c.type_inv.b alike
