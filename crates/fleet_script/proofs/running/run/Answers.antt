use Rattle.fleet_script.proofs.{Beginnings.{holds_blank}, Prelude.{AreAll-some, blank, IsPrefixWritten, kept_in, List, Option, sym, ℕ}, Runs.{is_answered, is_prefix, nothing_written}}
use Rattle.fleet_script.proofs.running.run.Goals as goal

nothing : (known a : Option (List ℕ)) → IsPrefixWritten known a a
nothing known a = let all = AreAll-some known in is_prefix known a a all.0 (λ s. Unit {0}) all.1 (nothing_written blank all.0 a (λ s. Unit {0}) tt)

pub returns-in-Err-Failed-clause-prefix : goal.returns-in-Err-Failed-clause-prefix
returns-in-Err-Failed-clause-prefix g c = nothing (g.S.Source.remaining c.args.reader.now) (g.K.Sink.contents c.args.writer.now)

pub returns-in-Err-Memory-clause-prefix : goal.returns-in-Err-Memory-clause-prefix
returns-in-Err-Memory-clause-prefix g c = nothing (g.S.Source.remaining c.args.reader.now) (g.K.Sink.contents c.args.writer.now)

pub returns-in-Ok-answer_all-clause-ok : goal.returns-in-Ok-answer_all-clause-ok
returns-in-Ok-answer_all-clause-ok g c =
    is_answered (g.S.Source.remaining c.args.reader.now) (g.K.Sink.contents c.args.writer.now) (g.K.Sink.contents c.answer_all.new.writer) c.deref.result.now (λ s. Unit {0})
    (rw (sym c.deref.ensures.value) at c.in-Ok.ensures.all) _ (rw (sym c.deref.ensures.value) at c.in-Ok.ensures.limit)
    (c.in-Ok-answer_all.ensures.ok blank (holds_blank (kept_in c.new.result) c.new.ensures.blank) tt)

pub returns-clause-prefix : goal.returns-clause-prefix
returns-clause-prefix g c =
    is_prefix (g.S.Source.remaining c.args.reader.now) (g.K.Sink.contents c.args.writer.now) (g.K.Sink.contents c.answer_all.new.writer) c.deref.result.now (λ s. Unit {0})
    (rw (sym c.deref.ensures.value) at c.in-Ok.ensures.all)
    (c.in-Err.ensures.prefix blank (holds_blank (kept_in c.new.result) c.new.ensures.blank) tt)
