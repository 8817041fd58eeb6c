use Rattle.script_words.proofs.{NumberLemmas.{below_power, digit_at, digit_value_at}, Prelude.{arith, digits_value_more}}
use Rattle.script_words.proofs.numbers.value_of.Goals as goal

pub loop-b-preserved : goal.loop-b-preserved
loop-b-preserved c =
    let digit = digit_at c.args.digits.now c.loop-b.b-index c.requires.digits (omega arith) in
    let value = digit_value_at _ digit.0 digit.1 in
    let more = digits_value_more 10 c.args.digits.now c.loop-b.b-index (omega arith) in (
      omega (arith, more, value, c.loop-b.invariant.0, c.from.ensures),
      below_power c.loop-b.value c.from.result c.loop-b.b-index c.loop-b.invariant.1 (omega (arith, digit.1, c.from.ensures)),
    )
