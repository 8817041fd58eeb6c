use Rattle.std.proofs.Common.{◌∷◌, [], arith}
use Rattle.sqlite.specs.Held.{state}
use Rattle.sqlite.specs.State.{ExecutesInside}
use Rattle.sqlite_log.specs.States.{IsInside, Meets}
use Rattle.sqlite_log.proofs.Statements.{met_text, peer_params}
use Rattle.sqlite_log.proofs.Steps.{inside_keeps, meets_inside, on_ok_both}
use Rattle.sqlite_log.proofs.peers.insert_peer.Goals as goal

pub returns-clause-inside : goal.returns-clause-inside
returns-clause-inside g c clean =
    let old = state g.S.Store c.args.tx.now.conn.now in
    let new = state g.S.Store c.execute.new.self.conn.now in
    let was = c.requires.inside (omega (arith, c.execute.ensures.survives.clean)) in
    let ran : ExecutesInside 0 met_text (peer_params c.args.peer.now) old new c.execute.result = rw (c.blob.ensures.blob, c.number.ensures.number, c.number-2.ensures.number) at (c.execute.ensures.runs clean was.inside) in
    on_ok_both c.execute.result _ (IsInside new) (λ both. both.0) (meets_inside old new c.args.peer.now c.execute.result was ran)

pub returns-clause-added : goal.returns-clause-added
returns-clause-added g c clean =
    let old = state g.S.Store c.args.tx.now.conn.now in
    let new = state g.S.Store c.execute.new.self.conn.now in
    let was = c.requires.inside (omega (arith, c.execute.ensures.survives.clean)) in
    let ran : ExecutesInside 0 met_text (peer_params c.args.peer.now) old new c.execute.result = rw (c.blob.ensures.blob, c.number.ensures.number, c.number-2.ensures.number) at (c.execute.ensures.runs clean was.inside) in
    on_ok_both c.execute.result _ (Meets old.now.trees new.now.trees (c.args.peer.now ∷ [])) (λ both. both.1) (meets_inside old new c.args.peer.now c.execute.result was ran)

pub returns-clause-kept : goal.returns-clause-kept
returns-clause-kept g c clean =
    inside_keeps _ _ (state g.S.Store c.args.tx.now.conn.now) (state g.S.Store c.execute.new.self.conn.now) c.execute.result (c.execute.ensures.runs clean (c.requires.inside (omega (arith, c.execute.ensures.survives.clean))).inside)
