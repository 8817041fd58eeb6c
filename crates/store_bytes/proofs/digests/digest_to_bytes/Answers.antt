use Rattle.store_bytes.specs.BytesLaws.{versions_spelled}
use Rattle.store_bytes.proofs.digests.digest_to_bytes.Goals as goal

pub returns-clause-spelled : goal.returns-clause-spelled
returns-clause-spelled c = versions_spelled c.args.digest.now c.versions.result.now c.versions.ensures.versions c.in_ok-put_versions.ensures.few c.in_ok-put_versions.ensures.fits
