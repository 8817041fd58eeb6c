use Rattle.std.proofs.Common.{ap, ◌∙◌}
use Rattle.replica_store.specs.Replicas.{Replicated}
use Rattle.durable_node.proofs.Keeping.{kept_open}
use Rattle.durable_node.proofs.nodes.NodeFile.open.Goals as goal

pub invariant_of-result : goal.invariant_of-result
invariant_of-result g c =
    kept_open g.L.EditLog.is_honest g.L.EditLog.is_running g.L.EditLog.held c.read_sum.new.log (g.L.EditLog.held c.args.log) c.from_store.result c.new.result.items c.new.ensures.items c.in_ok-store.ensures.running c.in_ok-store.ensures.held
    (λ honest. ap (λ (r : Replicated). r.store) c.from_store.ensures.given ∙ c.in_ok-store.ensures.sum honest)
