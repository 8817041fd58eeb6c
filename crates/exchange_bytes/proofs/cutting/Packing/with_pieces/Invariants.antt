use Rattle.std.proofs.Common.{◌≡◌, Option}
use Rattle.edit_sums.specs.Sums.{EntryMap}
use Rattle.exchange_session.specs.Joined.{joined}
use Rattle.exchange_bytes.specs.Cutting.{asks_in, GrowsBy, HasRoom, IsOpen, piece_weight, pieces_in, prints_in, total}
use Rattle.exchange_bytes.specs.declared.frames.Hello.{Hello}
use Rattle.exchange_bytes.proofs.cutting.Packing.with_pieces.Given as goal

abbrev pub invariant-loop-piece : goal.invariant-loop-piece
invariant-loop-piece l = record {
  prints : prints_in l.open ≡ prints_in l.fn.self;
  asks : asks_in l.open ≡ asks_in l.fn.self;
  pieces : (s : EntryMap) → joined s (pieces_in l.open) ≡ joined (joined s (pieces_in l.fn.self)) l.yielded;
  linked : (first : Option Hello) → IsOpen first l.fn.self → IsOpen first l.open;
  heavier : GrowsBy l.fn.self l.open (total piece_weight l.yielded);
  small : HasRoom l.fn.self 0 → HasRoom l.open 0;
}
