use Rattle.plain_values.proofs.Spelled.{other_lengths}
use Rattle.plain_values.proofs.orders.same.Goals as goal

pub returns-then-a-b : goal.returns-then-a-b
returns-then-a-b c = record { same = other_lengths c.args.a.now c.args.b.now c.if-a-b.true }
