use Rattle.unit_name.{proofs.{escapes.escape.Goals.{in-Some+in_ok-push_first+else-loop-byte-test, in_default}, Prelude.{arith, common_steps}}, specs.Escapes.{escape}}
use Rattle.unit_name.proofs.escapes.escape.Goals as goal

pub returns : goal.returns
unfolding escape
returns c =
    elim c.match-split_first.branch [ in-Some+in_ok-push_first+else-loop-byte-test w ↦ grind (arith, common_steps) | in_default w ↦ grind (arith, common_steps) ]
