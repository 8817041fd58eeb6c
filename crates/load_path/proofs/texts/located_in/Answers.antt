use Rattle.load_path.proofs.Prelude.{ap, below_directory, located-start, located_here, located_later, sym, ◌∙◌}
use Rattle.load_path.proofs.texts.located_in.Goals as goal

pub loop-rank-init : goal.loop-rank-init
loop-rank-init c = located-start c.args.text.now

pub returns-in-Some : goal.returns-in-Some
returns-in-Some c =
    let here = ap (λ d. below_directory d c.args.text.now) (sym c.directory.ensures.directory) ∙ sym c.in-Some.ensures.below in
    record { located = sym (located_here c.loop-rank.rank c.args.text.now c.in-Some.below.now c.loop-rank-test.true here) ∙ c.loop-rank.invariant }

pub loop-rank-preserved : goal.loop-rank-preserved
loop-rank-preserved c =
    let none = ap (λ d. below_directory d c.args.text.now) (sym c.directory.ensures.directory) ∙ sym c.in_default.ensures.below in
    sym (located_later c.loop-rank.rank c.args.text.now c.loop-rank-test.true none) ∙ c.loop-rank.invariant
