use Rattle.std.proofs.Common.{◌≡◌}
use Rattle.delta_pieces.proofs.{HostViews.{versions_are_digest}, Orders.{entries_ascend, map_ascends}, Prelude.{ap, Entry, map, ◌∙◌}}
use Rattle.std.specs.FinMap as finmap
use Rattle.delta_pieces.proofs.asks.digest.Goals as goal

pub from_versions-requires : goal.from_versions-requires
from_versions-requires c = record {
  sorted = rw c.in_ok-versions.ensures.versions (map_ascends (λ (x : Entry). x.version) (finmap.entries c.store.result.now) ∙ entries_ascend c.store.result.now);
}

pub returns : goal.returns
returns c =
    let held : finmap.entries c.from_versions.result ≡ map (λ p. (p.0, p.1.version)) (finmap.entries c.args.replica.now.store) =
    c.from_versions.ensures.versions ∙ c.in_ok-versions.ensures.versions ∙ ap (λ s. map (λ p. (p.0, p.1.version)) (finmap.entries s)) c.store.ensures.store
    in
    record { digest = versions_are_digest _ _ held }
