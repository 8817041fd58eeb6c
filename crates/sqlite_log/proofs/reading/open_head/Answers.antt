use Rattle.std.proofs.Common.{sym, ◌∙◌, arith}
use Rattle.sqlite.specs.Held.{state}
use Rattle.sqlite.specs.State.{HasCleanDisk}
use Rattle.sqlite_log.specs.Tables.{log_schema}
use Rattle.sqlite_log.proofs.Steps.{if_ok_stands, on_ok_both, opened_with, same_log}
use Rattle.sqlite_log.proofs.reading.open_head.Goals as goal

pub read_head-requires : goal.read_head-requires
read_head-requires g c = record { log = λ clean. opened_with log_schema (state g.S.Store c.args.conn.now) (c.requires.opened clean) (sym c.schema.ensures.value ∙ c.is_log.ensures.log c.if-not-is_log.false) }

pub returns-clause-same : goal.returns-clause-same
returns-clause-same g c clean =
    let early : HasCleanDisk (state g.S.Store c.args.conn.now) = omega (arith, c.read_head.ensures.crash.clean) in
    let log = opened_with log_schema (state g.S.Store c.args.conn.now) (c.requires.opened early) (sym c.schema.ensures.value ∙ c.is_log.ensures.log c.if-not-is_log.false) in
    on_ok_both c.read_head.result _ _ (λ same. (same_log (state g.S.Store c.args.conn.now) (state g.S.Store c.read_head.new.conn) log same).1) (c.read_head.ensures.same clean)

pub returns-clause-head : goal.returns-clause-head
returns-clause-head g c =
    let old = state g.S.Store c.args.conn.now in
    let new = state g.S.Store c.read_head.new.conn in
    let early : HasCleanDisk new → HasCleanDisk old = λ clean. omega (arith, c.read_head.ensures.crash.clean) in
    if_ok_stands old new c.read_head.result (λ clean. opened_with log_schema old (c.requires.opened (early clean)) (sym c.schema.ensures.value ∙ c.is_log.ensures.log c.if-not-is_log.false))
    c.read_head.ensures.same c.read_head.ensures.head
