use Rattle.std.proofs.Common.{arith}
use Rattle.node_commands.proofs.ReadSteps.{read_again, read_more}
use Rattle.node_commands.proofs.inputs.read_input.Goals.{in-Err, in-Ok-2+in_ok-extend_from_slice-in-Ok-2}
use Rattle.node_commands.proofs.inputs.read_input.Goals as goal

pub loop-turn-preserved : goal.loop-turn-preserved
loop-turn-preserved g c = elim c.match-read.branch [
  | in-Ok-2+in_ok-extend_from_slice-in-Ok-2 w ↦
      (let h = w.in-Ok.ensures in
      let test = w.in-Ok.n-test in
      let long = h.bound.1 in
      rw (w.input-is, w.in_ok-extend_from_slice-in-Ok-2.ensures.items) (read_more _ _ _ _ _ _ _ _ _ _ c.loop-turn.invariant h.bytes.0 (omega (arith, long, test.1)) (omega (arith, long, w.len.ensures, c.loop-turn.invariant.within)) h.counted))
  | in-Err w ↦ rw w.input-is (read_again _ _ _ _ _ _ _ _ _ c.loop-turn.invariant w.in-Err.ensures.bytes w.in-Err.ensures.counted)
]
