use Rattle.load_path.proofs.{CutLemmas.{below_deep}, Prelude.{sym}}
use Rattle.load_path.proofs.texts.Parts.below.Goals as goal

pub returns-then-is_some : goal.returns-then-is_some
returns-then-is_some c =
    let one = rw c.in-Some.is at c.cut.ensures.parts in
    record { parts = sym (below_deep c.args.rank c.args.below.now c.cut.result.0.now c.in-Some.after.now c.cut-2.result.0.now c.cut-2.result.1 one c.cut-2.ensures.parts (sym c.if-is_some.ensures)) }
