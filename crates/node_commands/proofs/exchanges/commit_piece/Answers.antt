use Rattle.std.proofs.Common.{subst}
use Rattle.edit_log.specs.Logs.{LeavesAllOrNone, stamped}
use Rattle.node_commands.proofs.exchanges.commit_piece.Goals as goal

pub returns-in_err-commit-clause-crash : goal.returns-in_err-commit-clause-crash
returns-in_err-commit-clause-crash g c honest =
    let log = g.L.EditLog in
    let added = c.take.new.self.unsaved in
    (added, subst (λ l. LeavesAllOrNone (log.held l) (stamped c.args.time added) (log.may_leave l) (log.may_leave c.commit.new.self.log)) c.in_ok-changed.ensures.log (c.commit.ensures.crash honest))

pub returns-clause-crash : goal.returns-clause-crash
returns-clause-crash g c honest =
    let log = g.L.EditLog in
    let added = c.take.new.self.unsaved in
    (added, subst (λ l. LeavesAllOrNone (log.held l) (stamped c.args.time added) (log.may_leave l) (log.may_leave c.commit.new.self.log)) c.in_ok-changed.ensures.log (c.commit.ensures.crash honest))
