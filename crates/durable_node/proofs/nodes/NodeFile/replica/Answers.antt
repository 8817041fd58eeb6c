use Rattle.std.proofs.Common.{◌≡◌, ◌++◌, ◌∙◌, ap, false, subst}
use Rattle.edit_sums.specs.Sums.{high_among, high_of}
use Rattle.edit_log.specs.Logs.{edits_in}
use Rattle.durable_node.specs.Nodes.{Node}
use Rattle.durable_node.proofs.Keeping.{kept_high}
use Rattle.durable_node.proofs.nodes.NodeFile.replica.Goals as goal

pub returns-clause-high : goal.returns-clause-high
returns-clause-high g c whole honest =
    let log = g.L.EditLog in
    let old : Node _ = record { log = c.self.inside.log; replica = c.self.inside.replica; unsaved = c.self.inside.unsaved.items; is_spent = c.self.inside.is_spent } in
    let P : Node _ → Type 0 = λ n. n.is_spent ≡ false → log.is_honest n.log → high_of n.replica.store ≡ high_among (edits_in (log.held n.log) ++ n.unsaved) in
    ap (λ (n : Node _). high_of n.replica.store) c.self.view_is ∙ subst P c.self.view_is (kept_high log.is_honest log.is_running log.held old c.self.invariant) whole honest
