use Rattle.crowds.proofs.{Prelude.{arith, length-append, sym, ◌∙◌}, Seated.{fresh_more}}
use Rattle.crowds.proofs.threads.seats_of.Goals as goal

pub loop-worker-preserved : goal.loop-worker-preserved
loop-worker-preserved g c = record {
  count = rw c.in_ok-push.ensures.items (simp length-append (omega (arith, c.loop-worker.invariant.count)));
  fresh =
      rw c.in_ok-push.ensures.items
      (fresh_more _ _ c.loop-worker.invariant.fresh c.in-Ok.ensures.calls (sym c.number.ensures.number ∙ c.if-number-worker.false ∙ sym c.loop-worker.invariant.count));
}
