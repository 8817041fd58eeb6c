use Rattle.delta_pieces.proofs.HostViews.{entries-versions}
use Rattle.delta_pieces.proofs.digests.Digest.from_versions.Goals as goal

pub returns : goal.returns
returns c = record { versions = entries-versions _ c.requires.sorted }
