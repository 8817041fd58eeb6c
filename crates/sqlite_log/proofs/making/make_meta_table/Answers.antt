use Rattle.std.proofs.Common.{arith}
use Rattle.sqlite.specs.Held.{state}
use Rattle.sqlite_log.proofs.Steps.{makes_meta, on_ok_both}
use Rattle.sqlite_log.proofs.making.make_meta_table.Goals as goal

pub returns-clause-made : goal.returns-clause-made
returns-clause-made g c clean = on_ok_both c.execute.result _ _ (λ all. all.0)
    (makes_meta (state g.S.Store c.args.conn.now) (state g.S.Store c.execute.new.self) c.execute.result (c.requires.edits (omega (arith, c.execute.ensures.survives.clean))) (c.execute.ensures.runs clean))

pub returns-clause-empty : goal.returns-clause-empty
returns-clause-empty g c clean = on_ok_both c.execute.result _ _ (λ all. all.1)
    (makes_meta (state g.S.Store c.args.conn.now) (state g.S.Store c.execute.new.self) c.execute.result (c.requires.edits (omega (arith, c.execute.ensures.survives.clean))) (c.execute.ensures.runs clean))

pub returns-clause-edits : goal.returns-clause-edits
returns-clause-edits g c clean = on_ok_both c.execute.result _ _ (λ all. all.2)
    (makes_meta (state g.S.Store c.args.conn.now) (state g.S.Store c.execute.new.self) c.execute.result (c.requires.edits (omega (arith, c.execute.ensures.survives.clean))) (c.execute.ensures.runs clean))
