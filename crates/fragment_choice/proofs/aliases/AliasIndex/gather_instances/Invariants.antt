use Rattle.fragment_choice.proofs.Prelude.{Gathers, IsLeadingInstanceOfAny, take}
use Rattle.fragment_choice.proofs.aliases.AliasIndex.gather_instances.Given as goal

abbrev pub invariant-loop-owner : goal.invariant-loop-owner
invariant-loop-owner l = Gathers (IsLeadingInstanceOfAny l.self l.name (take l.owner-index l.owners)) l.initial.others.keys l.others.keys
