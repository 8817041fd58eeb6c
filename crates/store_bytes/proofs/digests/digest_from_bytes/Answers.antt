use Rattle.std.proofs.Common.{ap, arith, Err, List, Ok, sym, ◌∙◌}
use Rattle.join_law.specs.declared.versions.Version.{Version}
use Rattle.load_places.specs.Places.{PlaceParts}
use Rattle.store_bytes.specs.BytesLaws.{versions_taken}
use Rattle.store_bytes.proofs.Held.{versions_found, versions_only}
use Rattle.store_bytes.proofs.digests.digest_from_bytes.Goals as goal

pub from_versions-requires : goal.from_versions-requires
from_versions-requires c = record { sorted = (versions_taken c.args.bytes.now c.in-Ok.versions.items (λ i. omega (arith, c.type_inv.bytes i)) c.in-Ok.ensures.read).0.ascending }

pub returns-in-Ok-clause-found : goal.returns-in-Ok-clause-found
returns-in-Ok-clause-found c =
    versions_found c.args.bytes.now (Ok c.from_versions.result) (λ i. omega (arith, c.type_inv.bytes i))
    (c.in-Ok.ensures.read ∙ ap (λ (l : List (PlaceParts × Version)). Ok l) (sym c.from_versions.ensures.versions))

pub returns-in-Ok-clause-only : goal.returns-in-Ok-clause-only
returns-in-Ok-clause-only c =
    versions_only c.args.bytes.now (Ok c.from_versions.result) (c.in-Ok.ensures.read ∙ ap (λ (l : List (PlaceParts × Version)). Ok l) (sym c.from_versions.ensures.versions))

pub returns-in-Err-clause-only : goal.returns-in-Err-clause-only
returns-in-Err-clause-only c = versions_only c.args.bytes.now (Err c.in-Err.fault) c.in-Err.ensures.read
