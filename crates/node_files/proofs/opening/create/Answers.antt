use Rattle.std.proofs.Common.{ap, List, ◌∙◌}
use Rattle.edit_sums.specs.Sums.{sum_of}
use Rattle.edit_log.specs.declared.logs.LogRow.{LogRow}
use Rattle.edit_log.specs.Logs.{edits_in}
use Rattle.node_files.proofs.Outcomes.{if_both}
use Rattle.node_files.proofs.opening.create.Goals as goal

pub returns-clause-empty : goal.returns-clause-empty
returns-clause-empty g c = rw c.or_removed.ensures.same (if_both c.open.result _ _ _ c.open.ensures.sum c.open.ensures.honest
    (λ node sum honest clean. sum clean ∙ ap (λ (rows : List LogRow). sum_of (edits_in rows)) (c.in_ok-log.ensures.empty (honest clean))))

pub returns-clause-alone : goal.returns-clause-alone
returns-clause-alone g c = rw c.or_removed.ensures.same (if_both c.open.result _ _ _ c.open.ensures.peers c.open.ensures.honest
    (λ node same honest clean. same clean ∙ c.in_ok-log.ensures.alone (honest clean)))

pub returns-clause-held : goal.returns-clause-held
returns-clause-held g c = rw c.or_removed.ensures.same (if_both c.open.result _ _ _ c.open.ensures.log c.open.ensures.honest
    (λ node same honest clean. same clean ∙ c.in_ok-log.ensures.empty (honest clean)))
