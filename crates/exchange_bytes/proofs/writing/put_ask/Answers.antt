use Rattle.store_bytes.specs.BytesLaws.{versions_spelled}
use Rattle.exchange_bytes.proofs.writing.put_ask.Goals as goal

pub returns-clause-fits : goal.returns-clause-fits
returns-clause-fits c = record {
  range = c.in_ok-put_range.ensures.fits;
  versions = versions_spelled c.args.it.now.versions c.versions.result.now c.versions.ensures.versions c.in_ok-put_versions.ensures.few c.in_ok-put_versions.ensures.fits;
}
