use Rattle.std.proofs.Common.{arith}
use Rattle.sqlite.specs.Held.{state}
use Rattle.sqlite_log.proofs.Steps.{makes_edits, on_ok_both}
use Rattle.sqlite_log.proofs.making.make_edit_table.Goals as goal

pub returns-clause-made : goal.returns-clause-made
returns-clause-made g c clean = on_ok_both c.execute.result _ _ (λ both. both.0)
    (makes_edits (state g.S.Store c.args.conn.now) (state g.S.Store c.execute.new.self) c.execute.result (c.requires.blank (omega (arith, c.execute.ensures.survives.clean))) (c.execute.ensures.runs clean))

pub returns-clause-empty : goal.returns-clause-empty
returns-clause-empty g c clean = on_ok_both c.execute.result _ _ (λ both. both.1)
    (makes_edits (state g.S.Store c.args.conn.now) (state g.S.Store c.execute.new.self) c.execute.result (c.requires.blank (omega (arith, c.execute.ensures.survives.clean))) (c.execute.ensures.runs clean))
