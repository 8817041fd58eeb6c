use Rattle.std.proofs.Common.{ap, List, sym, ◌∙◌}
use Rattle.edit_sums.specs.Sums.{sum_of}
use Rattle.edit_log.specs.declared.logs.LogHead.{LogHead}
use Rattle.edit_log.specs.declared.logs.LogRow.{LogRow}
use Rattle.edit_log.specs.Logs.{edits_in}
use Rattle.sqlite_log.specs.States.{held_in, peers_in}
use Rattle.node_files.proofs.opening.open.Goals as goal

pub returns-clause-format : goal.returns-clause-format
returns-clause-format g c = ap (λ (h : LogHead). h.format) c.in_ok-node.ensures.head ∙ c.in_ok-node.ensures.known

pub returns-clause-sum : goal.returns-clause-sum
returns-clause-sum g c clean = c.in_ok-node.ensures.sum clean ∙ ap (λ (rows : List LogRow). sum_of (edits_in rows)) (sym (c.in_ok-node.ensures.log clean))

pub returns-clause-found : goal.returns-clause-found
returns-clause-found g c clean =
    let found = c.in_ok-log.ensures.found (c.in_ok-node.ensures.honest clean) in
    record { was = found.was; found = found.found; same = c.in_ok-node.ensures.log clean ∙ ap held_in found.same; knows = c.in_ok-node.ensures.peers clean ∙ ap peers_in found.same }
