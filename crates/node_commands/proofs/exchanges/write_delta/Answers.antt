use Rattle.std.proofs.Common.{◌≡◌, None, subst}
use Rattle.std.specs.Prelude.{IfOk}
use Rattle.replica_store.specs.Replicas.{Replicated}
use Rattle.store_bytes.specs.Bytes.{spelling_of}
use Rattle.world_law.specs.Cuts.{cut}
use Rattle.node_commands.proofs.Outcomes.{made_prefix}
use Rattle.node_commands.proofs.exchanges.write_delta.Goals as goal

pub returns-clause-prefix : goal.returns-clause-prefix
returns-clause-prefix g c =
    let made = c.delta_bytes-made.result in
    let asked = c.args.asked.now in
    made_prefix g.K.Sink.contents c.args.sink.now c.write_made.new.sink (spelling_of 2 (cut c.args.node.now.replica.store asked None)) made c.write_made.result c.write_made.ensures.prefix c.write_made.ensures.kept
    (subst (λ (r : Replicated). IfOk made (λ b. b.items ≡ spelling_of 2 (cut r.store asked None))) c.replica.ensures.replica c.delta_bytes-made.ensures.bytes)
