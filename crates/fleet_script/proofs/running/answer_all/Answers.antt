use Rattle.fleet_script.proofs.{Prelude.{[], ap, eqb-true, Global, held, Holds, kept_in, lines_of, lines_of-nil, nil_from_length, refl, ScriptWorld, sym, Vec, ℕ, ◌∙◌}, running.answer_all.Goals.{else-len-ge-BATCH, then-len-ge-BATCH+in_ok-write_kept}, Runs.{answered, begins, both_ok, extended, flushed, gave_up, line_answered, moved, not_extended, on_err, Progress, stopped, whatever}}
use Rattle.fleet_script.proofs.running.answer_all.Goals as goal

pub loop-rest-init : goal.loop-rest-init
loop-rest-init g c = (begins c.args.script.now c.new-pending.result.items (kept_in c.args.shell) (g.K.Sink.contents c.args.writer.now) (g.H.Home.holds c.args.home.now) c.new-pending.ensures.items, refl)

pub returns-in_default-clause-prefix : goal.returns-in_default-clause-prefix
returns-in_default-clause-prefix g c first holds begun =
    gave_up g.K.Sink.contents first c.args.script.now c.loop-rest.rest.now (kept_in c.loop-rest.shell) (g.K.Sink.contents c.args.writer.now) c.loop-rest.writer (g.H.Home.holds c.loop-rest.home) c.loop-rest.pending.items
    (c.loop-rest.invariant.0 first holds begun) c.give_up.new.writer (g.H.Home.keeps c.loop-rest.home) (g.met.H.Home.lasts c.loop-rest.home)
    (rw c.deref.ensures.value at c.give_up.ensures.prefix) c.give_up.ensures.free

pub returns-then-is_err-clause-prefix : goal.returns-then-is_err-clause-prefix
returns-then-is_err-clause-prefix g c first holds begun =
    gave_up g.K.Sink.contents first c.args.script.now c.loop-rest.rest.now (kept_in c.loop-rest.shell) (g.K.Sink.contents c.args.writer.now) c.loop-rest.writer (g.H.Home.holds c.loop-rest.home) c.loop-rest.pending.items
    (c.loop-rest.invariant.0 first holds begun) c.give_up-then-is_err.new.writer (g.H.Home.keeps c.loop-rest.home) (g.met.H.Home.lasts c.loop-rest.home)
    (rw (c.deref-then-is_err.ensures.value ∙ not_extended c.extend_from_slice.result c.extend_from_slice.new.self.items c.loop-rest.pending.items c.deref-in-loop-rest.result.now (sym c.if-is_err.ensures.value) c.extend_from_slice.ensures.items) at c.give_up-then-is_err.ensures.prefix) c.give_up-then-is_err.ensures.free

pub returns-in_err-write_kept-clause-prefix : goal.returns-in_err-write_kept-clause-prefix
returns-in_err-write_kept-clause-prefix g c =
    whatever _ c.from_residual.result (λ first holds begun.
    stopped g.K.Sink.contents first c.args.script.now c.cut_line.result.1.now (kept_in c.answer_line.new.self) (g.K.Sink.contents c.args.writer.now) c.loop-rest.writer (g.H.Home.holds c.loop-rest.home) c.extend_from_slice.new.self.items
    (line_answered first c.args.script.now c.loop-rest.rest.now (kept_in c.loop-rest.shell) (g.K.Sink.contents c.args.writer.now) (g.K.Sink.contents c.loop-rest.writer) (g.H.Home.holds c.loop-rest.home) _ c.cut_line.result.1.now c.in-Ok.answer.items c.loop-rest.pending.items c.extend_from_slice.new.self.items (kept_in c.answer_line.new.self) c.cut_line.ensures.lines c.in-Ok.ensures.answered
    (rw c.deref-in-loop-rest.ensures.value at (extended c.extend_from_slice.result c.extend_from_slice.new.self.items c.loop-rest.pending.items c.deref-in-loop-rest.result.now (sym c.if-is_err.ensures.value) c.extend_from_slice.ensures.items)) (c.loop-rest.invariant.0 first holds begun))
    c.write_kept.new.writer (g.H.Home.keeps c.loop-rest.home) (g.H.Home.holds c.write_kept.new.home) (g.H.Home.keeps c.write_kept.new.home) (g.met.H.Home.lasts c.loop-rest.home) c.write_kept.ensures.kept (g.met.H.Home.lasts c.write_kept.new.home)
    (rw c.deref-then-len-ge-BATCH.ensures.value at c.in_err-write_kept.ensures.prefix) c.write_kept.ensures.first)

pub loop-rest-preserved : goal.loop-rest-preserved
loop-rest-preserved g c =
    let contents = g.K.Sink.contents in
    let script = c.args.script.now in
    let later = c.cut_line.result.1.now in
    let keeps = kept_in c.answer_line.new.self in
    let old = contents c.args.writer.now in
    let more : (first : ScriptWorld) → Holds (kept_in c.args.shell) first → g.H.Home.holds c.args.home.now (held first 0) → Progress first script later keeps old (contents c.loop-rest.writer) c.extend_from_slice.new.self.items (g.H.Home.holds c.loop-rest.home)
    = λ first holds begun.
    line_answered first script c.loop-rest.rest.now (kept_in c.loop-rest.shell) old (contents c.loop-rest.writer) (g.H.Home.holds c.loop-rest.home) _ later c.in-Ok.answer.items c.loop-rest.pending.items c.extend_from_slice.new.self.items keeps c.cut_line.ensures.lines c.in-Ok.ensures.answered
    (rw c.deref-in-loop-rest.ensures.value at (extended c.extend_from_slice.result c.extend_from_slice.new.self.items c.loop-rest.pending.items c.deref-in-loop-rest.result.now (sym c.if-is_err.ensures.value) c.extend_from_slice.ensures.items)) (c.loop-rest.invariant.0 first holds begun)
    in
    elim c.if-len-ge-BATCH.branch [
      | then-len-ge-BATCH+in_ok-write_kept w ↦ (
        λ first holds begun.
            moved first script later keeps old (contents w.write_kept.new.writer) (g.H.Home.holds w.write_kept.new.home) (contents c.if-len-ge-BATCH.writer) [] c.if-len-ge-BATCH.pending.items (g.H.Home.holds c.if-len-ge-BATCH.home)
            (sym (ap contents w.writer-is)) (sym (ap (λ (v : Vec ℕ Global). v.items) w.pending-is ∙ w.clear.ensures.items)) (sym (ap g.H.Home.holds w.home-is))
            (flushed first script later keeps old (contents c.loop-rest.writer) (g.H.Home.holds c.loop-rest.home) c.extend_from_slice.new.self.items (more first holds begun) (contents w.write_kept.new.writer) (g.H.Home.holds w.write_kept.new.home)
            (rw w.deref-then-len-ge-BATCH.ensures.value at w.in_ok-write_kept.ensures.written) w.in_ok-write_kept.ensures.held),
        ap g.K.Sink.refusals w.writer-is ∙ w.in_ok-write_kept.ensures.unrefused ∙ c.loop-rest.invariant.1,
      )
      | else-len-ge-BATCH w ↦ (
        λ first holds begun.
            moved first script later keeps old (contents c.loop-rest.writer) (g.H.Home.holds c.loop-rest.home) (contents c.if-len-ge-BATCH.writer) c.extend_from_slice.new.self.items c.if-len-ge-BATCH.pending.items (g.H.Home.holds c.if-len-ge-BATCH.home)
            (sym (ap contents w.writer-is)) (sym (ap (λ (v : Vec ℕ Global). v.items) w.pending-is)) (sym (ap g.H.Home.holds w.home-is)) (more first holds begun),
        ap g.K.Sink.refusals w.writer-is ∙ c.loop-rest.invariant.1,
      )
    ]

pub returns-clause-ok : goal.returns-clause-ok
returns-clause-ok g c =
    both_ok c.write_kept-2.result _ _ _ (rw c.deref-2.ensures.value at c.write_kept-2.ensures.written) c.write_kept-2.ensures.held (λ written first_is first holds begun.
    answered first c.args.script.now c.loop-rest.rest.now (kept_in c.loop-rest.shell) (g.K.Sink.contents c.args.writer.now) (g.K.Sink.contents c.loop-rest.writer) (g.H.Home.holds c.loop-rest.home) c.loop-rest.pending.items (c.loop-rest.invariant.0 first holds begun)
    (g.K.Sink.contents c.write_kept-2.new.writer) (g.H.Home.holds c.write_kept-2.new.home)
    (ap lines_of (nil_from_length _ (eqb-true _ _ (sym c.loop-rest-test.ensures))) ∙ lines_of-nil) written first_is)

pub returns-clause-prefix : goal.returns-clause-prefix
returns-clause-prefix g c =
    on_err c.write_kept-2.result _ _ (rw c.deref-2.ensures.value at c.write_kept-2.ensures.prefix) (λ prefix first holds begun.
    stopped g.K.Sink.contents first c.args.script.now c.loop-rest.rest.now (kept_in c.loop-rest.shell) (g.K.Sink.contents c.args.writer.now) c.loop-rest.writer (g.H.Home.holds c.loop-rest.home) c.loop-rest.pending.items (c.loop-rest.invariant.0 first holds begun)
    c.write_kept-2.new.writer (g.H.Home.keeps c.loop-rest.home) (g.H.Home.holds c.write_kept-2.new.home) (g.H.Home.keeps c.write_kept-2.new.home) (g.met.H.Home.lasts c.loop-rest.home) c.write_kept-2.ensures.kept (g.met.H.Home.lasts c.write_kept-2.new.home)
    prefix c.write_kept-2.ensures.first)
