use Rattle.store_bytes.specs.BytesLaws.{are_one_to_one}
use Rattle.store_bytes.proofs.laws.bytes_are_one_to_one.Goals as goal

pub returns : goal.returns
returns c = record { law = are_one_to_one }
