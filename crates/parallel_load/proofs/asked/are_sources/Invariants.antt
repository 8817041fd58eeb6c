use Rattle.parallel_load.proofs.Prelude.{All, IsSource, take}
use Rattle.parallel_load.proofs.asked.are_sources.Given as goal

abbrev pub invariant-loop-name : goal.invariant-loop-name
invariant-loop-name l = All (IsSource l.view l.others) (take l.name-index l.names)
