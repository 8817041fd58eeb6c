use Rattle.std.proofs.Common.{arith}
use Rattle.store_bytes.proofs.Held.{entries_found, entries_only}
use Rattle.store_bytes.proofs.stores.read_store.Goals as goal

pub returns-clause-found : goal.returns-clause-found
returns-clause-found c = entries_found c.args.kind c.args.bytes.now c.gather.result (λ i. omega (arith, c.type_inv.bytes i)) c.gather.ensures.read

pub returns-clause-only : goal.returns-clause-only
returns-clause-only c = entries_only c.args.kind c.args.bytes.now c.gather.result c.gather.ensures.read
