use Rattle.std.proofs.Common.{◌∙◌, ◌++◌, ap, arith, List, subst, sym}
use Rattle.std.specs.Prelude.{IsPermutation}
use Rattle.edit_sums.specs.CounterLaws.{high_among-edits_of}
use Rattle.edit_sums.specs.Sums.{high_among}
use Rattle.edit_log.specs.declared.logs.LogRow.{LogRow}
use Rattle.edit_log.specs.Logs.{stamped}
use Rattle.durable_node.specs.Nodes.{Node}
use Rattle.durable_node.proofs.Keeping.{compacted_sum}
use Rattle.durable_node.proofs.nodes.NodeFile.compact_into.Goals as goal

pub append-requires-clause-counters : goal.append-requires-clause-counters
append-requires-clause-counters g c =
    omega (arith, ap high_among c.deref.ensures.value, ap high_among c.in_ok-edits.ensures.edits, high_among-edits_of c.store-store.result.now, c.high.ensures.high, c.if-high-ge-COUNTERS.false)

pub returns-clause-sum : goal.returns-clause-sum
returns-clause-sum g c honest none =
    let log = g.M.EditLog in
    let moved = subst (λ (rows : List LogRow). IsPermutation (log.held c.args.fresh.now ++ stamped c.args.time c.deref.result.now) rows) (sym (c.in_ok-note_peers.ensures.held honest)) (c.in_ok-append.ensures.held (c.note_peers.ensures.honest honest)) in
    compacted_sum c.args.time (log.held c.args.fresh.now) (log.held c.note_peers.new.self) c.deref.result.now c.store-store.result.now moved none (c.deref.ensures.value ∙ c.in_ok-edits.ensures.edits)
    ∙ c.store-store.ensures.store ∙ ap (λ (n : Node _). n.replica.store) c.self.view_is
