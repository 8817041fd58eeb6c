use Rattle.script_pipes.proofs.{FaultLemmas.{OnErr-any}, Prelude.{take_rest}, WriteLemmas.{write_more, write_stops}}
use Rattle.script_pipes.proofs.writing.write_all.Goals as goal

pub returns-in_err-taken-clause-prefix : goal.returns-in_err-taken-clause-prefix
returns-in_err-taken-clause-prefix g c =
    OnErr-any _ c.from_residual.result (write_stops _ _ _ _ _ _ _ c.loop-rest.invariant c.in_err-taken.ensures.err)

pub loop-rest-preserved : goal.loop-rest-preserved
loop-rest-preserved g c =
    rw take_rest (write_more _ _ _ _ _ _ _ _ c.in_ok-taken.taken c.loop-rest.invariant c.in_ok-taken.ensures.ok c.in_ok-taken.ensures.unrefused)
