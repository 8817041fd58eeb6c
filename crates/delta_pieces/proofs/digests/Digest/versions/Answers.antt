use Rattle.delta_pieces.proofs.{HostViews.{entries-versions}, Prelude.{ap, sym, ◌∙◌}}
use Rattle.std.specs.FinMap as finmap
use Rattle.delta_pieces.proofs.digests.Digest.versions.Goals as goal

pub returns : goal.returns
returns c = record { versions = c.deref.ensures.value ∙ sym (entries-versions _ c.self.invariant) ∙ ap finmap.entries c.self.view_is }
