use Rattle.dropins.proofs.Prelude.{ap, arith, first_for, option_or, path, said_more, take_at, ◌∙◌}
use Rattle.dropins.proofs.precedence.add_level.Goals as goal

pub loop-dir-preserved : goal.loop-dir-preserved
loop-dir-preserved c f =
    said_more (λ d. take_at c.args.view.now c.args.search (path c.args.level d f)) c.args.dirs.now c.loop-dir.dir-index c.dir-item.result (omega arith) c.dir-item.is (first_for c.add_folder.new.found.items f) (first_for c.loop-dir.found.items f) (first_for c.args.found.now.items f)
    (c.in_ok-add_folder.ensures.added f ∙ ap (λ d. option_or (first_for c.loop-dir.found.items f) (take_at c.args.view.now c.args.search (path c.args.level d f))) c.as_slice.ensures.bytes)
    (c.loop-dir.invariant f)
