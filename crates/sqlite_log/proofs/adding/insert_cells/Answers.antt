use Rattle.std.proofs.Common.{◌∷◌, [], arith}
use Rattle.sqlite.specs.Held.{state}
use Rattle.sqlite.specs.State.{ExecutesInside}
use Rattle.sqlite_log.specs.Cells.{Cells}
use Rattle.sqlite_log.specs.States.{Grows, IsInside}
use Rattle.sqlite_log.proofs.Statements.{insert_text, params_of}
use Rattle.sqlite_log.proofs.Steps.{adds_inside, inside_keeps, on_ok_both}
use Rattle.sqlite_log.proofs.adding.insert_cells.Goals as goal

pub returns-clause-inside : goal.returns-clause-inside
returns-clause-inside g c clean =
    let old = state g.S.Store c.args.tx.now.conn.now in
    let new = state g.S.Store c.execute.new.self.conn.now in
    let cells : Cells = record { place = c.args.place.now; counter = c.args.version.counter; writer = c.args.version.writer; kind = c.args.content.0; content = c.args.content.1.now; time = c.args.time } in
    let was = c.requires.inside (omega (arith, c.execute.ensures.survives.clean)) in
    let ran : ExecutesInside 0 insert_text (params_of cells) old new c.execute.result = rw (c.text.ensures.text, c.counter.ensures.counter, c.number.ensures.number, c.number-2.ensures.number, c.blob.ensures.blob, c.number-3.ensures.number) at (c.execute.ensures.runs clean was.inside) in
    on_ok_both c.execute.result _ (IsInside new) (λ both. both.0) (adds_inside old new cells c.execute.result was ran)

pub returns-clause-added : goal.returns-clause-added
returns-clause-added g c clean =
    let old = state g.S.Store c.args.tx.now.conn.now in
    let new = state g.S.Store c.execute.new.self.conn.now in
    let cells : Cells = record { place = c.args.place.now; counter = c.args.version.counter; writer = c.args.version.writer; kind = c.args.content.0; content = c.args.content.1.now; time = c.args.time } in
    let was = c.requires.inside (omega (arith, c.execute.ensures.survives.clean)) in
    let ran : ExecutesInside 0 insert_text (params_of cells) old new c.execute.result = rw (c.text.ensures.text, c.counter.ensures.counter, c.number.ensures.number, c.number-2.ensures.number, c.blob.ensures.blob, c.number-3.ensures.number) at (c.execute.ensures.runs clean was.inside) in
    on_ok_both c.execute.result _ (Grows old.now.trees new.now.trees (cells ∷ [])) (λ both. both.1) (adds_inside old new cells c.execute.result was ran)

pub returns-clause-kept : goal.returns-clause-kept
returns-clause-kept g c clean =
    inside_keeps _ _ (state g.S.Store c.args.tx.now.conn.now) (state g.S.Store c.execute.new.self.conn.now) c.execute.result (c.execute.ensures.runs clean (c.requires.inside (omega (arith, c.execute.ensures.survives.clean))).inside)
