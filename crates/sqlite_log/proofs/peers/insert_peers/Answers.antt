use Rattle.std.proofs.Common.{arith, subst, sym, rules, ◌∙◌}
use Rattle.std.proofs.lemmas.List.{take_more}
use Rattle.sqlite.specs.Held.{state}
use Rattle.sqlite.proofs.StateLemmas.{survives_then}
use Rattle.sqlite_log.specs.States.{Meets}
use Rattle.sqlite_log.proofs.Steps.{keeps_then, meets_more}
use Rattle.sqlite_log.proofs.peers.insert_peers.Goals as goal

pub loop-peer-preserved : goal.loop-peer-preserved
loop-peer-preserved g c =
    let old = state g.S.Store c.args.tx.now.conn.now in
    let mid = state g.S.Store c.loop-peer.tx.conn.now in
    let new = state g.S.Store c.insert_peer.new.tx.conn.now in
    let each = c.loop-peer.invariant in
    let step = c.in_ok-insert_peer.ensures in
    record {
      same = step.same_reference ∙ each.same;
      survives = survives_then old mid new _ _ (λ _. ⊥) (λ _ db none. none) (λ _ db none. none) each.survives step.survives;
      kept = λ clean. keeps_then old mid new (each.kept (omega (arith, step.survives.clean))) (step.kept clean);
      inside = λ clean. step.inside clean;
      done = λ clean. subst (Meets old.now.trees new.now.trees) (sym (take_more c.args.met.now c.loop-peer.peer-index _ (search rules))) (meets_more old.now.trees mid.now.trees new.now.trees _ _ (each.done (omega (arith, step.survives.clean))) (step.added clean));
    }
