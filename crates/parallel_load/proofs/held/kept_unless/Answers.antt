use Rattle.parallel_load.proofs.{Prelude.{Err, searched}, Staying.{indices_ascend, none_where}}
use Rattle.parallel_load.proofs.held.kept_unless.Goals as goal

pub returns-in_ok-again-in-Err-clause-left : goal.returns-in_ok-again-in-Err-clause-left
returns-in_ok-again-in-Err-clause-left c =
    let affected = c.args.affected.now in
    let at = searched affected c.args.index (Err c.in-Err.field-0) c.in-Err.ensures.position (indices_ascend affected c.requires.ascending) in
    none_where affected c.args.index c.in-Err.field-0 at.1 at.2
