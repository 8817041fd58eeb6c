use Rattle.fleet_answers.proofs.Prelude.{asking_changes_no_table, IsEdgeTable, LoadMap, subst, sym}
use Rattle.fleet_answers.proofs.snapshots.Snapshot.asked_for.Goals as goal

pub invariant_of-result : goal.invariant_of-result
invariant_of-result c =
    subst (λ (l : LoadMap). IsEdgeTable l c.self.inside.table) (sym c.asked_for.ensures.load)
    (asking_changes_no_table c.self.inside.loaded c.args.extra c.self.inside.table c.self.invariant)
