use Rattle.std.proofs.Common.{◌≡◌}
use Rattle.load_path.proofs.Prelude.{directories, drop, located, located_from}
use Rattle.load_path.proofs.texts.located_in.Given as goal

abbrev pub invariant-loop-rank : goal.invariant-loop-rank
invariant-loop-rank l = located_from l.rank (drop l.rank directories) l.text ≡ located l.text
