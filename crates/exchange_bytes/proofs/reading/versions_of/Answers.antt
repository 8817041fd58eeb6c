use Rattle.std.proofs.Common.{arith}
use Rattle.exchange_bytes.proofs.Whole.{versions_fail, versions_read, versions_sorted}
use Rattle.exchange_bytes.proofs.reading.versions_of.Goals as goal

pub from_versions-requires : goal.from_versions-requires
from_versions-requires c = record { sorted = versions_sorted c.args.bytes.now c.in-Ok.versions.items c.in-Ok.rest.now (λ i. omega (arith, c.type_inv.bytes i)) c.in-Ok.ensures.read }

pub returns-in-Ok : goal.returns-in-Ok
returns-in-Ok c = record {
  read = versions_read c.args.bytes.now c.in-Ok.versions.items c.in-Ok.rest.now c.from_versions.result (λ i. omega (arith, c.type_inv.bytes i)) c.in-Ok.ensures.read c.from_versions.ensures.versions;
}

pub returns-in-Err : goal.returns-in-Err
returns-in-Err c = record { read = versions_fail c.args.bytes.now c.in-Err.fault c.in-Err.ensures.read }
