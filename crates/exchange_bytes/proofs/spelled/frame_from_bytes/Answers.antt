use Rattle.std.proofs.Common.{arith}
use Rattle.exchange_bytes.specs.Frames.{parts_of}
use Rattle.exchange_bytes.proofs.Whole.{frame_found, frame_only}
use Rattle.exchange_bytes.proofs.spelled.frame_from_bytes.Goals as goal

pub returns-clause-found : goal.returns-clause-found
returns-clause-found c = frame_found parts_of c.args.bytes.now c.read_frame.result (λ i. omega (arith, c.type_inv.bytes i)) c.read_frame.ensures.exact

pub returns-clause-only : goal.returns-clause-only
returns-clause-only c = frame_only parts_of c.args.bytes.now c.read_frame.result c.read_frame.ensures.exact
