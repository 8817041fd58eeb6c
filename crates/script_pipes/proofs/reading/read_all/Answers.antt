use Rattle.script_pipes.proofs.{FaultLemmas.{OnErr-any}, Prelude.{arith, Consumes-append, sym}, reading.read_all.Goals.{in-Err, in-Ok-2+in_ok-map_err-in-Ok-2}, ReadLemmas.{read_again, read_more}}
use Rattle.script_pipes.proofs.reading.read_all.Goals as goal

pub returns-in-Ok-clause-left : goal.returns-in-Ok-clause-left
returns-in-Ok-clause-left g c = (_, Consumes-append _ _ _ _ _ c.loop-turn.invariant.consumes c.in-Ok.ensures.bytes.0)

pub returns-in_err-map_err-in-Ok-2-clause-left : goal.returns-in_err-map_err-in-Ok-2-clause-left
returns-in_err-map_err-in-Ok-2-clause-left g c =
    OnErr-any _ c.from_residual-in_err-map_err-in-Ok-2.result (_, Consumes-append _ _ _ _ _ c.loop-turn.invariant.consumes c.in-Ok-2.ensures.bytes.0)

pub loop-turn-preserved : goal.loop-turn-preserved
loop-turn-preserved g c = elim c.match-read.branch [
  | in-Ok-2+in_ok-map_err-in-Ok-2 w ↦
      (let h = w.in-Ok.ensures in
      let test = w.in-Ok.n-test in
      let long = h.bound.1 in
      let e = sym w.map_err-in-Ok-2.ensures.variant in
      rw (w.script-is, w.extend_from_slice.ensures.items, e, w.in_ok-map_err-in-Ok-2.was) (read_more _ _ _ _ _ _ _ _ _ _ _ _ c.loop-turn.invariant h.bytes.0 (omega (arith, long, test.1)) (omega (arith, long, w.len.ensures, c.loop-turn.invariant.within)) h.asked h.counted))
  | in-Err w ↦ rw w.script-is (read_again _ _ _ _ _ _ _ _ _ _ _ c.loop-turn.invariant w.in-Err.ensures.bytes w.in-Err.ensures.asked w.in-Err.ensures.counted)
]
