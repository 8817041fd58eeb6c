use Rattle.std.proofs.Common.{arith}
use Rattle.sqlite.specs.Held.{state}
use Rattle.sqlite_log.proofs.Steps.{makes_peers, on_ok_both}
use Rattle.sqlite_log.proofs.making.make_peer_table.Goals as goal

pub returns-clause-made : goal.returns-clause-made
returns-clause-made g c clean = on_ok_both c.execute.result _ _ (λ all. all.0)
    (makes_peers (state g.S.Store c.args.conn.now) (state g.S.Store c.execute.new.self) c.execute.result (c.requires.both (omega (arith, c.execute.ensures.survives.clean))) (c.execute.ensures.runs clean))

pub returns-clause-alone : goal.returns-clause-alone
returns-clause-alone g c clean = on_ok_both c.execute.result _ _ (λ all. all.1)
    (makes_peers (state g.S.Store c.args.conn.now) (state g.S.Store c.execute.new.self) c.execute.result (c.requires.both (omega (arith, c.execute.ensures.survives.clean))) (c.execute.ensures.runs clean))

pub returns-clause-heads : goal.returns-clause-heads
returns-clause-heads g c clean = on_ok_both c.execute.result _ _ (λ all. all.2)
    (makes_peers (state g.S.Store c.args.conn.now) (state g.S.Store c.execute.new.self) c.execute.result (c.requires.both (omega (arith, c.execute.ensures.survives.clean))) (c.execute.ensures.runs clean))

pub returns-clause-edits : goal.returns-clause-edits
returns-clause-edits g c clean = on_ok_both c.execute.result _ _ (λ all. all.3)
    (makes_peers (state g.S.Store c.args.conn.now) (state g.S.Store c.execute.new.self) c.execute.result (c.requires.both (omega (arith, c.execute.ensures.survives.clean))) (c.execute.ensures.runs clean))
