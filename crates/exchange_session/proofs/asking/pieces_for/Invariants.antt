use Rattle.std.proofs.Common.{map, take, ◌≡◌}
use Rattle.exchange_session.specs.Answered.{piece_for}
use Rattle.exchange_session.proofs.asking.pieces_for.Given as goal

abbrev pub invariant-loop-ask : goal.invariant-loop-ask
invariant-loop-ask l = l.pieces.items ≡ map (piece_for l.node.store) (take l.ask-index l.asks)
