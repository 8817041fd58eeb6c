use Rattle.std.proofs.Common.{◌++◌, ◌≡◌}
use Rattle.script_answers.proofs.Prelude.{flat_map, standing_lines, take}
use Rattle.script_answers.proofs.trees.append_tree.Given as goal

abbrev pub invariant-loop-pair : goal.invariant-loop-pair
invariant-loop-pair l = l.out.items ≡ l.initial.out.items ++ flat_map standing_lines (take l.pair-index l.tree)
