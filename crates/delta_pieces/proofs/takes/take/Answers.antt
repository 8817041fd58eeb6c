use Rattle.std.proofs.Common.{rules}
use Rattle.delta_pieces.proofs.takes.take.Goals as goal

pub returns-in-Err-clause-rest : goal.returns-in-Err-clause-rest
returns-in-Err-clause-rest c = search rules
