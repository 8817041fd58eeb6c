use Rattle.exchange_bytes.specs.FrameLaws.{are_one_to_one}
use Rattle.exchange_bytes.proofs.laws.frames_are_one_to_one.Goals as goal

pub returns : goal.returns
returns c = record { law = are_one_to_one }
