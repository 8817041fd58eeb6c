use Rattle.fleet_script.proofs.{Prelude.{begun, codes, held_begun, List, subst, sym, ℕ}, Runs.{nothing_from, on_err, on_ok, whatever}}
use Rattle.fleet_script.proofs.running.run_kept.Goals as goal

abbrev here : List ℕ
here = codes "here"

pub returns-in_err-begun-in-Ok-clause-prefix : goal.returns-in_err-begun-in-Ok-clause-prefix
returns-in_err-begun-in-Ok-clause-prefix g c =
    whatever _ c.from_residual.result
    (nothing_from (begun here c.args.here.writer c.args.here.store) (g.S.Source.remaining c.args.reader.now) (g.K.Sink.contents c.args.writer.now) (g.H.Home.keeps c.args.home.now)
    (subst (g.H.Home.keeps c.args.home.now) (sym (held_begun here c.args.here.writer c.args.here.store)) (g.met.H.Home.lasts c.args.home.now c.args.here.store c.requires.held)))

pub returns-in-Ok-clause-ok : goal.returns-in-Ok-clause-ok
returns-in-Ok-clause-ok g c =
    on_ok c.answer_all.result _ _ c.answer_all.ensures.ok (λ answered. record {
      script = c.deref.result.now;
      read = rw (sym c.deref.ensures.value) at c.in-Ok.ensures.all;
      within = rw (sym c.deref.ensures.value) at c.in-Ok.ensures.limit;
      answered = answered (begun here c.args.here.writer c.args.here.store) c.in_ok-begun-in-Ok.ensures.begun (subst (g.H.Home.holds c.args.home.now) (sym (held_begun here c.args.here.writer c.args.here.store)) c.requires.held);
    })

pub returns-in-Ok-clause-prefix : goal.returns-in-Ok-clause-prefix
returns-in-Ok-clause-prefix g c =
    on_err c.answer_all.result _ _ c.answer_all.ensures.prefix (λ prefix. record {
      script = c.deref.result.now;
      read = rw (sym c.deref.ensures.value) at c.in-Ok.ensures.all;
      prefix = prefix (begun here c.args.here.writer c.args.here.store) c.in_ok-begun-in-Ok.ensures.begun (subst (g.H.Home.holds c.args.home.now) (sym (held_begun here c.args.here.writer c.args.here.store)) c.requires.held);
    })

pub returns-in-Err-Failed-clause-prefix : goal.returns-in-Err-Failed-clause-prefix
returns-in-Err-Failed-clause-prefix g c =
    nothing_from (begun here c.args.here.writer c.args.here.store) (g.S.Source.remaining c.args.reader.now) (g.K.Sink.contents c.args.writer.now) (g.H.Home.keeps c.args.home.now)
    (subst (g.H.Home.keeps c.args.home.now) (sym (held_begun here c.args.here.writer c.args.here.store)) (g.met.H.Home.lasts c.args.home.now c.args.here.store c.requires.held))

pub returns-clause-prefix : goal.returns-clause-prefix
returns-clause-prefix g c =
    nothing_from (begun here c.args.here.writer c.args.here.store) (g.S.Source.remaining c.args.reader.now) (g.K.Sink.contents c.args.writer.now) (g.H.Home.keeps c.args.home.now)
    (subst (g.H.Home.keeps c.args.home.now) (sym (held_begun here c.args.here.writer c.args.here.store)) (g.met.H.Home.lasts c.args.home.now c.args.here.store c.requires.held))
