use Rattle.std.proofs.Common.{◌≡◌, map, take}
use Rattle.sqlite.specs.Held.{state}
use Rattle.sqlite.specs.State.{HasCleanDisk, Survives, KeepsCommit}
use Rattle.sqlite_log.specs.Cells.{cells_of}
use Rattle.sqlite_log.specs.States.{Grows, IsInside}
use Rattle.sqlite_log.proofs.adding.add_rows.Given as goal

abbrev pub invariant-loop-edit : goal.invariant-loop-edit
invariant-loop-edit g l =
    let old = state g.S.Store l.fn.tx.conn.now in
    let now = state g.S.Store l.tx.conn.now in
    record {
      same : l.tx.conn.ghost_name ≡ l.fn.tx.conn.ghost_name;
      survives : Survives old now (λ _. ⊥);
      kept : HasCleanDisk now → KeepsCommit old now;
      inside : HasCleanDisk now → IsInside now;
      done : HasCleanDisk now → Grows old.now.trees now.now.trees (map (cells_of l.time) (take l.edit-index l.edits));
    }
