use Rattle.std.proofs.Common.{rules}
use Rattle.delta_pieces.proofs.{HostViews.{parts_are_whole}, Prelude.{ap, ◌∙◌}}
use Rattle.std.specs.FinMap as finmap
use Rattle.delta_pieces.proofs.pieces.Piece.split.Goals as goal

pub returns-in-Ok-clause-joined : goal.returns-in-Ok-clause-joined
returns-in-Ok-clause-joined c =
    parts_are_whole c.args.at c.from_store.result c.from_store-in-Ok.result c.self.inside.store
    (ap finmap.entries c.from_store.ensures.store ∙ c.in-Ok.ensures.first) (ap finmap.entries c.from_store-in-Ok.ensures.store ∙ c.in-Ok.ensures.second)
    ∙ c.self.view_is

pub returns-in-Err-clause-rest : goal.returns-in-Err-clause-rest
returns-in-Err-clause-rest c = search rules
