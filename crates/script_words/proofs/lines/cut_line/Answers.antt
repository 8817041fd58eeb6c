use Rattle.script_words.{proofs.Prelude.{arith, eq-eqb, eqb-true, lines-cut_at, lines-cut_nowhere, take_rest}, specs.Lines.{lines_of}}
use Rattle.script_words.proofs.lines.cut_line.Goals as goal

pub returns-in-None-clause-lines : goal.returns-in-None-clause-lines
unfolding lines_of
returns-in-None-clause-lines c = lines-cut_nowhere c.args.script.now c.requires.some (λ k h is. c.in-None.ensures k (omega arith) h (eq-eqb _ _ is))

pub returns-in-Some-clause-lines : goal.returns-in-Some-clause-lines
unfolding lines_of
returns-in-Some-clause-lines c =
    let first = c.in-Some.ensures in
    rw (take_rest, c.without_return.ensures.line)
    (lines-cut_at c.args.script.now c.in-Some.end first.0.high (eqb-true _ _ first.1) (λ k h is. first.0.before k (omega arith) h (eq-eqb _ _ is)))
