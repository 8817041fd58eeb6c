use Rattle.std.proofs.Common.{◌-◌, ◌≡◌, ◌≤◌}
use Rattle.fleet_script.proofs.Prelude.{AreMerged, into_first, kept_in, length, map, numbers_from}
use Rattle.fleet_script.proofs.states.Shell.gather.Given as goal

abbrev pub invariant-loop-from : goal.invariant-loop-from
invariant-loop-from l = record {
  merged : AreMerged (kept_in l.fn.self) (kept_in l.self) (map into_first (numbers_from 1 (l.from - 1)));
  bound : l.from - 1 ≤ length l.fn.self.nodes.items - 1;
  count : length l.self.nodes.items ≡ length l.fn.self.nodes.items;
  workers : l.self.workers ≡ l.fn.self.workers;
}
