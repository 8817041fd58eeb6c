use Rattle.delta_pieces.proofs.HostViews.{empty_test}
use Rattle.std.specs.FinMap as finmap
use Rattle.delta_pieces.proofs.pieces.Piece.is_empty.Goals as goal

pub returns : goal.returns
returns c = record { empty = empty_test c.len.result (finmap.entries c.args.self.now) c.len.ensures.len }
