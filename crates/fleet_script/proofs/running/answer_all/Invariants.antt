use Rattle.std.proofs.Common.{◌≡◌}
use Rattle.fleet_script.proofs.{Prelude.{kept_in, length}, Runs.{Progresses}}
use Rattle.fleet_script.proofs.running.answer_all.Given as goal

abbrev pub invariant-loop-rest : goal.invariant-loop-rest
invariant-loop-rest g l =
    Progresses l.script l.rest (kept_in l.fn.shell) (kept_in l.shell) (g.K.Sink.contents l.fn.writer) (g.K.Sink.contents l.writer) l.pending.items (g.H.Home.holds l.fn.home) (g.H.Home.holds l.home)
    × (g.K.Sink.refusals l.writer ≡ g.K.Sink.refusals l.fn.writer)

abbrev pub decreases-loop-rest : goal.decreases-loop-rest
decreases-loop-rest g l = length l.rest
