use Rattle.std.proofs.Common.{arith}
use Rattle.exchange_bytes.proofs.Whole.{peers_ascend}
use Rattle.exchange_bytes.proofs.reading.peers_of.Goals as goal

pub from_ascending-requires : goal.from_ascending-requires
from_ascending-requires c = record { ascending = peers_ascend c.args.bytes.now c.in-Ok.peers.items c.in-Ok.rest.now (λ i. omega (arith, c.type_inv.bytes i)) c.in-Ok.ensures.read }
