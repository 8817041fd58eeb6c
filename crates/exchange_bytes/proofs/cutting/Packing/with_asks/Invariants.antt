use Rattle.std.proofs.Common.{[]}
use Rattle.std.specs.FinMap as finmap
use Rattle.exchange_bytes.specs.Cutting.{ask_weight, GrowsBy, HasRoom, SaysAlso, total}
use Rattle.exchange_bytes.proofs.cutting.Packing.with_asks.Given as goal

abbrev pub invariant-loop-ask : goal.invariant-loop-ask
invariant-loop-ask l = record {
  says : SaysAlso l.fn.self l.open [] l.yielded finmap.empty;
  heavier : GrowsBy l.fn.self l.open (total ask_weight l.yielded);
  small : HasRoom l.fn.self 0 → HasRoom l.open 0;
}
