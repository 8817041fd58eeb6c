use Rattle.std.proofs.Common.{◌≡◌}
use Rattle.script_answers.proofs.Prelude.{depth_line, flat_map, take}
use Rattle.script_answers.proofs.pulled_lines.pulled_text.Given as goal

abbrev pub invariant-loop-pair : goal.invariant-loop-pair
invariant-loop-pair l = l.out.items ≡ flat_map depth_line (take l.pair-index l.pairs)
