use Rattle.std.proofs.Common.{◌∙◌}
use Rattle.std.proofs.lemmas.List.{append-nil}
use Rattle.exchange_bytes.specs.Cutting.{asks_in, piece_weight, prints_in}
use Rattle.exchange_bytes.proofs.Packing.{piece_more, weight_push}
use Rattle.exchange_bytes.proofs.cutting.Packing.with_pieces.Goals as goal

pub loop-piece-preserved : goal.loop-piece-preserved
loop-piece-preserved c =
    let known = c.loop-piece.invariant in
    let says = c.in_ok-open.ensures.says in
    record {
      prints = says.prints ∙ append-nil (prints_in c.loop-piece.open) ∙ known.prints;
      asks = says.asks ∙ append-nil (asks_in c.loop-piece.open) ∙ known.asks;
      pieces = piece_more c.args.self c.loop-piece.open c.in_ok-open.open c.loop-piece.yielded c.in-Some.piece known.pieces says;
      linked = λ first is. says.linked first (known.linked first is);
      heavier = record { weighs = weight_push c.args.self c.loop-piece.open c.in_ok-open.open piece_weight c.loop-piece.yielded c.in-Some.piece known.heavier.weighs c.in_ok-open.ensures.heavier };
      small = λ room. c.in_ok-open.ensures.small (known.small room);
    }
