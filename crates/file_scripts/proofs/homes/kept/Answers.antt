use Rattle.std.proofs.Common.{◌≡◌, ◌⊎◌, ap, subst, ◌∙◌}
use Rattle.edit_sums.specs.Sums.{sum_of}
use Rattle.replica_store.specs.Replicas.{Replicated}
use Rattle.edit_log.specs.Logs.{edits_in}
use Rattle.file_scripts.proofs.Keeping.{found_next, held_next, where_ok}
use Rattle.file_scripts.proofs.homes.kept.Goals as goal

pub returns-clause-held : goal.returns-clause-held
returns-clause-held g c =
    let log = g.L.EditLog in
    where_ok c.commit.result (log.is_honest c.commit.new.self.log) _ _ _ c.commit.ensures.sum c.commit.ensures.lasts (λ sums lasts.
    held_next log.is_honest log.held log.may_leave c.args.node.now c.commit.new.self c.args.store.now
    (ap (λ (r : Replicated). r.store) (c.commit.ensures.replica ∙ c.in_ok-join.ensures.joined)) sums lasts)

pub returns-clause-kept : goal.returns-clause-kept
returns-clause-kept g c =
    let log = g.L.EditLog in
    found_next log.is_honest log.held log.may_leave c.args.node.now c.commit.new.self c.args.store.now
    (ap (λ (r : Replicated). r.store) (c.commit.ensures.replica ∙ c.in_ok-join.ensures.joined))
    (λ honest. subst log.is_honest c.in_ok-join.ensures.log (c.commit.ensures.honest honest))
    (λ honest left may. subst (λ l. log.may_leave l left ⊎ (sum_of (edits_in left) ≡ c.commit.new.self.replica.store)) c.in_ok-join.ensures.log (c.commit.ensures.found honest left may))
