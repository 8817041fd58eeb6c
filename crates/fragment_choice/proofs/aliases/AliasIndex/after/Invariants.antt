use Rattle.fragment_choice.proofs.Prelude.{Gathers, LeadsToAny, take}
use Rattle.fragment_choice.proofs.aliases.AliasIndex.after.Given as goal

abbrev pub invariant-loop-name : goal.invariant-loop-name
invariant-loop-name l = Gathers (LeadsToAny l.self (take l.name-index l.level)) l.initial.next.keys l.next.keys
