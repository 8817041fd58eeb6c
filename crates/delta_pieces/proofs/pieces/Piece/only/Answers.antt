use Rattle.delta_pieces.proofs.{Gathers.{only_is_cut}, Prelude.{ap, cut, only_at, Some, ◌∙◌}}
use Rattle.delta_pieces.proofs.pieces.Piece.only.Goals as goal

pub returns : goal.returns
returns c = record {
  only =
      c.in_ok-store.ensures.cut ∙ ap (λ ask. cut c.self.inside.store ask (Some c.args.places.now)) c.new-nothing.ensures.empty
      ∙ only_is_cut c.args.places.now c.self.inside.store ∙ ap (only_at c.args.places.now) c.self.view_is;
}
