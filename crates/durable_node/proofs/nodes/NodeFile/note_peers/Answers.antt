use Rattle.std.proofs.Common.{◌≡◌, ◌⊎◌, ◌∙◌, ap, subst}
use Rattle.edit_sums.specs.Sums.{sum_of}
use Rattle.edit_log.specs.Logs.{edits_in}
use Rattle.durable_node.specs.Nodes.{Node}
use Rattle.durable_node.proofs.Keeping.{kept_alone, left_alone}
use Rattle.durable_node.proofs.nodes.NodeFile.note_peers.Goals as goal

pub returns-in-Ok-clause-found : goal.returns-in-Ok-clause-found
returns-in-Ok-clause-found g c honest left may =
    let log = g.L.EditLog in
    subst (λ (n : Node _). log.may_leave n.log left ⊎ (sum_of (edits_in left) ≡ sum_of (edits_in (log.held n.log)))) c.self.view_is
    (left_alone (log.held c.self.inside.log) left (log.may_leave c.self.inside.log left) (c.note_peers.ensures.crash honest left may))

pub returns-in-Ok-clause-saved : goal.returns-in-Ok-clause-saved
returns-in-Ok-clause-saved g c honest none left may =
    let log = g.L.EditLog in
    let old : Node _ = record { log = c.self.inside.log; replica = c.self.inside.replica; unsaved = c.self.inside.unsaved.items; is_spent = c.self.inside.is_spent } in
    let before = log.may_leave c.self.inside.log left in
    subst (λ (n : Node _). log.may_leave n.log left ⊎ (sum_of (edits_in left) ≡ c.self.inside.replica.store)) c.self.view_is
    (kept_alone log.is_honest log.is_running log.held old c.self.invariant c.if-self.false (c.note_peers.ensures.honest honest) (ap (λ (n : Node _). n.unsaved) c.self.view_is ∙ none) left before
    (left_alone (log.held c.self.inside.log) left before (c.note_peers.ensures.crash honest left may)))

pub returns-in-Err-clause-found : goal.returns-in-Err-clause-found
returns-in-Err-clause-found g c honest left may =
    let log = g.L.EditLog in
    subst (λ (n : Node _). log.may_leave n.log left ⊎ (sum_of (edits_in left) ≡ sum_of (edits_in (log.held n.log)))) c.self.view_is
    (left_alone (log.held c.self.inside.log) left (log.may_leave c.self.inside.log left) (c.note_peers.ensures.crash honest left may))

pub returns-in-Err-clause-saved : goal.returns-in-Err-clause-saved
returns-in-Err-clause-saved g c honest none left may =
    let log = g.L.EditLog in
    let old : Node _ = record { log = c.self.inside.log; replica = c.self.inside.replica; unsaved = c.self.inside.unsaved.items; is_spent = c.self.inside.is_spent } in
    let before = log.may_leave c.self.inside.log left in
    subst (λ (n : Node _). log.may_leave n.log left ⊎ (sum_of (edits_in left) ≡ c.self.inside.replica.store)) c.self.view_is
    (kept_alone log.is_honest log.is_running log.held old c.self.invariant c.if-self.false (c.note_peers.ensures.honest honest) (ap (λ (n : Node _). n.unsaved) c.self.view_is ∙ none) left before
    (left_alone (log.held c.self.inside.log) left before (c.note_peers.ensures.crash honest left may)))
