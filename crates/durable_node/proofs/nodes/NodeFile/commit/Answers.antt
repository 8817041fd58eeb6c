use Rattle.std.proofs.Common.{◌++◌, ◌≡◌, ◌⊎◌, List, subst, sym}
use Rattle.edit_sums.specs.declared.entries.Edit.{Edit}
use Rattle.std.specs.Prelude.{IsPermutation}
use Rattle.edit_sums.specs.Sums.{sum_of}
use Rattle.edit_log.specs.Logs.{edits_in, stamped}
use Rattle.durable_node.specs.Nodes.{IsKept, Node}
use Rattle.durable_node.proofs.Keeping.{kept_commit, kept_found}
use Rattle.durable_node.proofs.nodes.NodeFile.commit.Goals as goal

pub invariant_of-self : goal.invariant_of-self
invariant_of-self g c =
    let log = g.L.EditLog in
    let old : Node _ = record { log = c.self.inside.log; replica = c.self.inside.replica; unsaved = c.self.inside.unsaved.items; is_spent = c.self.inside.is_spent } in
    subst (λ es. IsKept log.is_honest log.is_running log.held (record { log = c.append.new.self; replica = c.self.inside.replica; unsaved = es; is_spent = c.self.inside.is_spent })) (sym {A = List Edit} c.clear.ensures.items)
    (kept_commit log.is_honest log.is_running log.held old c.args.time c.append.new.self c.self.invariant c.if-self.false c.append.ensures.honest
    (λ honest. subst (λ es. IsPermutation (log.held c.self.inside.log ++ stamped c.args.time es) (log.held c.append.new.self)) c.deref.ensures.value (c.in-Ok.ensures.held honest)) c.in-Ok.ensures.running).0

pub returns-in-Ok-clause-sum : goal.returns-in-Ok-clause-sum
returns-in-Ok-clause-sum g c =
    let log = g.L.EditLog in
    let old : Node _ = record { log = c.self.inside.log; replica = c.self.inside.replica; unsaved = c.self.inside.unsaved.items; is_spent = c.self.inside.is_spent } in
    (kept_commit log.is_honest log.is_running log.held old c.args.time c.append.new.self c.self.invariant c.if-self.false c.append.ensures.honest
    (λ honest. subst (λ es. IsPermutation (log.held c.self.inside.log ++ stamped c.args.time es) (log.held c.append.new.self)) c.deref.ensures.value (c.in-Ok.ensures.held honest)) c.in-Ok.ensures.running).1

pub returns-in-Ok-clause-found : goal.returns-in-Ok-clause-found
returns-in-Ok-clause-found g c honest left may =
    let log = g.L.EditLog in
    let old : Node _ = record { log = c.self.inside.log; replica = c.self.inside.replica; unsaved = c.self.inside.unsaved.items; is_spent = c.self.inside.is_spent } in
    subst (λ (m : Node _). log.may_leave m.log left ⊎ (sum_of (edits_in left) ≡ c.self.inside.replica.store)) c.self.view_is
    (kept_found log.is_honest log.is_running log.held old c.args.time c.append.new.self (log.may_leave c.self.inside.log) c.self.invariant c.if-self.false c.append.ensures.honest honest left
    (subst (λ es. log.may_leave c.self.inside.log left ⊎ IsPermutation (log.held c.self.inside.log ++ stamped c.args.time es) left) c.deref.ensures.value (c.append.ensures.crash honest left may)))

pub returns-in-Err-clause-found : goal.returns-in-Err-clause-found
returns-in-Err-clause-found g c honest left may =
    let log = g.L.EditLog in
    let old : Node _ = record { log = c.self.inside.log; replica = c.self.inside.replica; unsaved = c.self.inside.unsaved.items; is_spent = c.self.inside.is_spent } in
    subst (λ (m : Node _). log.may_leave m.log left ⊎ (sum_of (edits_in left) ≡ c.self.inside.replica.store)) c.self.view_is
    (kept_found log.is_honest log.is_running log.held old c.args.time c.append.new.self (log.may_leave c.self.inside.log) c.self.invariant c.if-self.false c.append.ensures.honest honest left
    (subst (λ es. log.may_leave c.self.inside.log left ⊎ IsPermutation (log.held c.self.inside.log ++ stamped c.args.time es) left) c.deref.ensures.value (c.append.ensures.crash honest left may)))
