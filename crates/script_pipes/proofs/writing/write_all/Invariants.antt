use Rattle.script_pipes.proofs.{Prelude.{length}, WriteLemmas.{IsWrittenTo}}
use Rattle.script_pipes.proofs.writing.write_all.Given as goal

abbrev pub invariant-loop-rest : goal.invariant-loop-rest
invariant-loop-rest g l =
    IsWrittenTo (g.K.Sink.contents l.fn.sink) (g.K.Sink.contents l.sink) (g.K.Sink.refusals l.fn.sink) (g.K.Sink.refusals l.sink) l.bytes l.rest

abbrev pub decreases-loop-rest : goal.decreases-loop-rest
decreases-loop-rest g l = length l.rest
