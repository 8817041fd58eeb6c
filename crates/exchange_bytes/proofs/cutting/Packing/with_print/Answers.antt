use Rattle.std.proofs.Common.{refl}
use Rattle.exchange_bytes.proofs.Weighing.{print_fits}
use Rattle.exchange_bytes.proofs.cutting.Packing.with_print.Goals as goal

pub returns-clause-small : goal.returns-clause-small
returns-clause-small c room = print_fits c.in_ok-open.open _ c.args.print (c.in_ok-open.ensures.room room) refl c.in_ok-push.ensures.items refl refl refl
