use Rattle.script_answers.proofs.Reading.{name_fault}
use Rattle.script_answers.proofs.requests.read_name.Goals as goal

pub returns-in-Err : goal.returns-in-Err
returns-in-Err c = record { read = rw c.from.ensures (name_fault c.args.word.now c.in-Err.fault c.in-Err.ensures.fault) }
