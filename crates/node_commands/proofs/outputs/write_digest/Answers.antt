use Rattle.std.proofs.Common.{◌≡◌, subst}
use Rattle.std.specs.Prelude.{IfOk}
use Rattle.replica_store.specs.Replicas.{Replicated}
use Rattle.store_bytes.specs.Bytes.{digest_spelling}
use Rattle.world_law.specs.Cuts.{digest_of}
use Rattle.node_commands.proofs.Outcomes.{made_prefix}
use Rattle.node_commands.proofs.outputs.write_digest.Goals as goal

pub returns-clause-prefix : goal.returns-clause-prefix
returns-clause-prefix g c =
    let made = c.digest_bytes-made.result in
    made_prefix g.K.Sink.contents c.args.sink.now c.write_made.new.sink (digest_spelling (digest_of c.args.node.now.replica.store)) made c.write_made.result c.write_made.ensures.prefix c.write_made.ensures.kept
    (subst (λ (r : Replicated). IfOk made (λ b. b.items ≡ digest_spelling (digest_of r.store))) c.replica.ensures.replica c.digest_bytes-made.ensures.bytes)
