use Rattle.exchange_bytes.specs.SizeLaws.{are_short}
use Rattle.exchange_bytes.proofs.laws.frames_are_short.Goals as goal

pub returns : goal.returns
returns c = record { law = are_short }
