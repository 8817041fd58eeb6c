use Rattle.std.proofs.Common.{[]}
use Rattle.std.specs.FinMap as finmap
use Rattle.exchange_bytes.specs.Cutting.{print_weight, GrowsBy, HasRoom, SaysAlso, total}
use Rattle.exchange_bytes.proofs.cutting.Packing.with_prints.Given as goal

abbrev pub invariant-loop-print : goal.invariant-loop-print
invariant-loop-print l = record {
  says : SaysAlso l.fn.self l.open l.yielded [] finmap.empty;
  heavier : GrowsBy l.fn.self l.open (total print_weight l.yielded);
  small : HasRoom l.fn.self 0 → HasRoom l.open 0;
}
