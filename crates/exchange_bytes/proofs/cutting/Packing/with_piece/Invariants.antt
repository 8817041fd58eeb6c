use Rattle.std.proofs.Common.{length}
use Rattle.exchange_bytes.specs.Cutting.{HasRoom}
use Rattle.exchange_bytes.proofs.Packing.{ArePacked}
use Rattle.exchange_bytes.proofs.cutting.Packing.with_piece.Given as goal

abbrev pub invariant-loop-placed : goal.invariant-loop-placed
invariant-loop-placed l = record {
  packed : ArePacked l.piece l.fn.self l.open l.entries;
  small : HasRoom l.fn.self 0 → HasRoom l.open 0;
}

abbrev pub decreases-loop-placed : goal.decreases-loop-placed
decreases-loop-placed l = length l.entries
