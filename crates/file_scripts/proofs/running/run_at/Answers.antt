use Rattle.std.proofs.Common.{ap, Err, Ok, OnErr, refl, Result, rules, subst, sym, ◌∙◌}
use Rattle.replica_store.specs.Replicas.{Replicated}
use Rattle.script_worlds.specs.ValidityLaws.{held_begun}
use Rattle.script_worlds.specs.Worlds.{begun}
use Rattle.file_scripts.specs.Kept.{here, IsFoundIn}
use Rattle.file_scripts.specs.KeptLaws.{found_from_held}
use Rattle.file_scripts.proofs.Keeping.{nothing_from, opened}
use Rattle.file_scripts.proofs.running.run_at.Goals as goal

whatever : {T E : Type 0} (P : Type 0) (r : Result T E) → P → OnErr r P
whatever P (Ok x) p = tt
whatever P (Err e) p = p

pub returns-in_err-here-clause-prefix : goal.returns-in_err-here-clause-prefix
returns-in_err-here-clause-prefix g c =
    let log = g.L.EditLog in
    let node = c.args.home.now.node in
    let store = node.replica.store in
    let same = ap (λ (r : Replicated). r.store) c.replica.ensures.replica in
    whatever _ c.from_residual.result
    (nothing_from (begun here node.replica.writer store) (g.S.Source.remaining c.args.reader.now) (g.K.Sink.contents c.args.writer.now) (IsFoundIn log.is_honest log.may_leave node)
    (subst (IsFoundIn log.is_honest log.may_leave node) (sym (held_begun here node.replica.writer store))
    (found_from_held log.is_honest log.held log.may_leave node store
    (opened log.is_honest log.held log.may_leave node store refl c.requires.saved (λ honest. sym same ∙ c.replica.ensures.sums c.requires.whole honest) (λ honest. c.replica.ensures.lasts c.requires.whole honest)))))

pub run_kept-requires-clause-held : goal.run_kept-requires-clause-held
run_kept-requires-clause-held g c =
    let log = g.L.EditLog in
    let node = c.args.home.now.node in
    let same = ap (λ (r : Replicated). r.store) c.replica.ensures.replica in
    let held = opened log.is_honest log.held log.may_leave node c.in_ok-here.here.store (sym (ap (λ (r : Replicated). r.store) c.in_ok-here.ensures.copy ∙ same)) c.requires.saved
    (λ honest. sym same ∙ c.replica.ensures.sums c.requires.whole honest) (λ honest. c.replica.ensures.lasts c.requires.whole honest) in
    search rules
