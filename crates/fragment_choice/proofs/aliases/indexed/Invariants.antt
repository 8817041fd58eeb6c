use Rattle.fragment_choice.proofs.Prelude.{aliases_in, AreMapsOf, take}
use Rattle.fragment_choice.proofs.aliases.indexed.Given as goal

abbrev pub invariant-loop-name : goal.invariant-loop-name
invariant-loop-name l = AreMapsOf (aliases_in (take l.name-index l.targets)) l.aliases l.owners
