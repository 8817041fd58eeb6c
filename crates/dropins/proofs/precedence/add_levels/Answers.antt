use Rattle.std.proofs.Common.{◌≡◌}
use Rattle.dropins.proofs.Prelude.{ap, arith, first_for, first_said, level_is, levels, option_or, said_more, sym, take, took_in, ◌∙◌}
use Rattle.dropins.proofs.precedence.add_levels.Goals as goal

pub loop-level-preserved : goal.loop-level-preserved
loop-level-preserved c f =
    said_more (took_in c.args.view.now c.args.search c.args.dirs.now f) levels c.loop-level.level c.loop-level.level (omega arith) (sym (level_is c.loop-level.level c.loop-level.level (omega arith))) (first_for c.add_level.new.found.items f) (first_for c.loop-level.found.items f) (first_for c.args.found.now.items f) (c.in_ok-add_level.ensures.added f) (c.loop-level.invariant f)

pub returns : goal.returns
returns c =
    let all : c.loop-level.level ≡ 8 = omega (arith, c.loop-level.auto.level-end, c.loop-level-test.false) in
    record {
      added = λ f.
          c.loop-level.invariant f ∙ ap (λ n. option_or (first_for c.args.found.now.items f) (first_said (took_in c.args.view.now c.args.search c.args.dirs.now f) (take n levels))) all;
    }
