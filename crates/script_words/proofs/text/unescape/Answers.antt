use Rattle.script_words.proofs.{Prelude.{arith, eq-eqb, eqb-true, take_rest}, TextLemmas.{read_all, read_bad, read_before, read_more}}
use Rattle.script_words.proofs.text.unescape.Goals as goal

pub returns-in_default-read_escape : goal.returns-in_default-read_escape
returns-in_default-read_escape c =
    let first = c.in-Some.ensures in
    let so_far = read_before _ _ _ _ first.0.high (eqb-true _ _ first.1) (λ k h is. first.0.before k (omega arith) h (eq-eqb _ _ is)) c.loop-at.invariant in
    record { bytes = read_bad _ _ _ so_far (omega arith) (rw take_rest at c.in_default-read_escape.ensures.value) }

pub loop-at-preserved : goal.loop-at-preserved
loop-at-preserved c =
    let first = c.in-Some.ensures in
    let so_far = read_before _ _ _ _ first.0.high (eqb-true _ _ first.1) (λ k h is. first.0.before k (omega arith) h (eq-eqb _ _ is)) c.loop-at.invariant in
    rw (c.in_ok-push.ensures.items, c.in_ok-extend_from_slice.ensures.items) (read_more _ _ _ _ _ so_far (rw take_rest at c.in-Some-read_escape.ensures.value))

pub returns : goal.returns
returns c =
    record { bytes = rw c.in_ok-extend_from_slice-2.ensures.items (read_all _ _ _ (λ k h is. c.in_default.ensures k (omega arith) h (eq-eqb _ _ is)) c.loop-at.invariant) }
