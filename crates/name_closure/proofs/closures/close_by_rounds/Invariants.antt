use Rattle.std.proofs.Common.{◌-◌, ◌≤◌}
use Rattle.name_closure.proofs.{Prelude.{length}, Rounding.{IsUnderWay}}
use Rattle.name_closure.proofs.closures.close_by_rounds.Given as goal

abbrev pub invariant-loop-alloc : goal.invariant-loop-alloc
invariant-loop-alloc g l = record {
  way :
      IsUnderWay g.K.Ord.cmp (g.L.Loads.is_node l.loader) (g.L.Loads.is_loaded l.loader) (g.L.Loads.named l.loader) l.sources l.found.entries
      l.fresh.items;
  room : length l.found.entries ≤ l.limit;
}

abbrev pub decreases-loop-alloc : goal.decreases-loop-alloc
decreases-loop-alloc g l = l.limit - length l.found.entries
