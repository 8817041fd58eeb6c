use Rattle.std.proofs.Common.{arith}
use Rattle.sqlite.specs.Held.{state}
use Rattle.sqlite.specs.State.{HasCleanDisk}
use Rattle.sqlite_log.proofs.Steps.{adds_head, on_ok_both}
use Rattle.sqlite_log.proofs.making.add_head.Goals as goal

pub returns-clause-log : goal.returns-clause-log
returns-clause-log g c clean = on_ok_both c.execute.result _ _ (λ all. all.0)
    (let early : HasCleanDisk (state g.S.Store c.args.conn.now) = omega (arith, c.execute.ensures.survives.clean) in
    adds_head (state g.S.Store c.args.conn.now) (state g.S.Store c.execute.new.self) c.args.head.now c.execute.result (c.requires.log early) (c.requires.empty early)
    (rw (c.number.ensures.number, c.number-2.ensures.number, c.blob.ensures.blob) at (c.execute.ensures.runs clean)))

pub returns-clause-head : goal.returns-clause-head
returns-clause-head g c clean = on_ok_both c.execute.result _ _ (λ all. all.1)
    (let early : HasCleanDisk (state g.S.Store c.args.conn.now) = omega (arith, c.execute.ensures.survives.clean) in
    adds_head (state g.S.Store c.args.conn.now) (state g.S.Store c.execute.new.self) c.args.head.now c.execute.result (c.requires.log early) (c.requires.empty early)
    (rw (c.number.ensures.number, c.number-2.ensures.number, c.blob.ensures.blob) at (c.execute.ensures.runs clean)))

pub returns-clause-peers : goal.returns-clause-peers
returns-clause-peers g c clean = on_ok_both c.execute.result _ _ (λ all. all.3)
    (let early : HasCleanDisk (state g.S.Store c.args.conn.now) = omega (arith, c.execute.ensures.survives.clean) in
    adds_head (state g.S.Store c.args.conn.now) (state g.S.Store c.execute.new.self) c.args.head.now c.execute.result (c.requires.log early) (c.requires.empty early)
    (rw (c.number.ensures.number, c.number-2.ensures.number, c.blob.ensures.blob) at (c.execute.ensures.runs clean)))

pub returns-clause-edits : goal.returns-clause-edits
returns-clause-edits g c clean = on_ok_both c.execute.result _ _ (λ all. all.2)
    (let early : HasCleanDisk (state g.S.Store c.args.conn.now) = omega (arith, c.execute.ensures.survives.clean) in
    adds_head (state g.S.Store c.args.conn.now) (state g.S.Store c.execute.new.self) c.args.head.now c.execute.result (c.requires.log early) (c.requires.empty early)
    (rw (c.number.ensures.number, c.number-2.ensures.number, c.blob.ensures.blob) at (c.execute.ensures.runs clean)))
