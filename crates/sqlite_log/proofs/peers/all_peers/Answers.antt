use Rattle.std.proofs.Common.{arith}
use Rattle.sqlite.specs.Held.{state}
use Rattle.sqlite_log.proofs.Statements.{peers_plain, peers_text}
use Rattle.sqlite_log.proofs.Showing.{shown_unchanged, shows_nothing, shows_peers}
use Rattle.sqlite_log.proofs.Steps.{if_ok_then, on_ok_then}
use Rattle.sqlite_log.proofs.peers.all_peers.Goals as goal

pub returns-clause-shown : goal.returns-clause-shown
returns-clause-shown g c clean = if_ok_then c.query_all.result _ _
    (λ rows. shows_peers (state g.S.Store c.args.conn.now) (state g.S.Store c.query_all.new.self) rows.items (c.requires.log (omega (arith, c.query_all.ensures.survives.clean)))) (c.query_all.ensures.ok clean)

pub returns-clause-same : goal.returns-clause-same
returns-clause-same g c clean = on_ok_then c.query_all.result _ _
    (λ rows. shown_unchanged peers_text peers_plain (state g.S.Store c.args.conn.now) (state g.S.Store c.query_all.new.self) rows.items (c.requires.log (omega (arith, c.query_all.ensures.survives.clean)))) (c.query_all.ensures.ok clean)

pub returns-clause-crash : goal.returns-clause-crash
returns-clause-crash g c = shows_nothing peers_text peers_plain (state g.S.Store c.args.conn.now) (state g.S.Store c.query_all.new.self) c.requires.log c.query_all.ensures.survives
