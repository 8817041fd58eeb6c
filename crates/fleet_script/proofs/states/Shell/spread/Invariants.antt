use Rattle.std.proofs.Common.{◌-◌, ◌≡◌, ◌≤◌}
use Rattle.fleet_script.proofs.Prelude.{AreMerged, out_of_first, kept_in, length, map, numbers_from}
use Rattle.fleet_script.proofs.states.Shell.spread.Given as goal

abbrev pub invariant-loop-to : goal.invariant-loop-to
invariant-loop-to l = record {
  merged : AreMerged (kept_in l.fn.self) (kept_in l.self) (map out_of_first (numbers_from 1 (l.to - 1)));
  bound : l.to - 1 ≤ length l.fn.self.nodes.items - 1;
  count : length l.self.nodes.items ≡ length l.fn.self.nodes.items;
  workers : l.self.workers ≡ l.fn.self.workers;
}
