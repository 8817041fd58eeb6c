use Rattle.script_pipes.proofs.ReadLemmas.{IsReadTo}
use Rattle.script_pipes.proofs.reading.read_all.Given as goal

abbrev pub invariant-loop-turn : goal.invariant-loop-turn
invariant-loop-turn g l =
    IsReadTo (g.S.Source.remaining l.fn.source) (g.S.Source.remaining l.source) (g.S.Source.reads l.fn.source) (g.S.Source.reads l.source) (g.S.Source.failures l.fn.source) (g.S.Source.failures l.source) l._turn l.script.items
