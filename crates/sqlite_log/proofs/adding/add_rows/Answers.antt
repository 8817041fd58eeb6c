use Rattle.std.proofs.Common.{arith, subst, rules, ◌∙◌, ◌^◌}
use Rattle.sqlite.specs.Held.{state}
use Rattle.sqlite.proofs.StateLemmas.{survives_then}
use Rattle.sqlite_log.specs.Cells.{cells_of}
use Rattle.sqlite_log.specs.States.{Grows}
use Rattle.sqlite_log.proofs.Steps.{counter_low, grows_more, keeps_then, taken_more}
use Rattle.sqlite_log.proofs.adding.add_rows.Goals as goal

pub add_row-requires-clause-counter : goal.add_row-requires-clause-counter
add_row-requires-clause-counter g c = counter_low c.args.edits.now c.loop-edit.edit-index c.edit-item.result (2 ^ 63) (search rules) c.edit-item.is c.requires.counters

pub loop-edit-preserved : goal.loop-edit-preserved
loop-edit-preserved g c =
    let old = state g.S.Store c.args.tx.now.conn.now in
    let mid = state g.S.Store c.loop-edit.tx.conn.now in
    let new = state g.S.Store c.add_row.new.tx.conn.now in
    let each = c.loop-edit.invariant in
    let step = c.in_ok-add_row.ensures in
    let more = taken_more (cells_of c.args.time) c.args.edits.now c.loop-edit.edit-index c.edit-item.result (search rules) c.edit-item.is in
    record {
      same = step.same_reference ∙ each.same;
      survives = survives_then old mid new _ _ (λ _. ⊥) (λ _ db none. none) (λ _ db none. none) each.survives step.survives;
      kept = λ clean. keeps_then old mid new (each.kept (omega (arith, step.survives.clean))) (step.kept clean);
      inside = λ clean. step.inside clean;
      done = λ clean. subst (Grows old.now.trees new.now.trees) more (grows_more old.now.trees mid.now.trees new.now.trees _ _ (each.done (omega (arith, step.survives.clean))) (step.added clean));
    }
