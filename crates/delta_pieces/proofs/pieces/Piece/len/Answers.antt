use Rattle.delta_pieces.proofs.Prelude.{ap, ◌∙◌}
use Rattle.std.specs.FinMap as finmap
use Rattle.delta_pieces.proofs.pieces.Piece.len.Goals as goal

pub returns : goal.returns
returns c = record { len = c.len.ensures.len ∙ ap finmap.len c.self.view_is ∙ finmap.len-entries c.args.self.now }
