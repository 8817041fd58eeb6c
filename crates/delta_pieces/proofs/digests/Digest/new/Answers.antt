use Rattle.delta_pieces.proofs.{HostViews.{no_versions, versions_map}, Prelude.{ap, ◌∙◌}}
use Rattle.delta_pieces.proofs.digests.Digest.new.Goals as goal

pub returns : goal.returns
returns c = record { empty = ap versions_map c.new.ensures.items ∙ no_versions }
