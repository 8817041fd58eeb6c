use Rattle.script_answers.proofs.Prelude.{AppendsCrossed, take}
use Rattle.script_answers.proofs.trees.append_crossed.Given as goal

abbrev pub invariant-loop-linked : goal.invariant-loop-linked
invariant-loop-linked l = AppendsCrossed l.store l.viewer (take l.linked-index l.all) l.initial.out.items l.out.items
