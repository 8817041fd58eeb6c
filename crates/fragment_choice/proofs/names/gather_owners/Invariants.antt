use Rattle.fragment_choice.proofs.Prelude.{Adds, take}
use Rattle.fragment_choice.proofs.names.gather_owners.Given as goal

abbrev pub invariant-loop-owner : goal.invariant-loop-owner
invariant-loop-owner l = Adds (take l.owner-index l.owners) l.initial.others.keys l.others.keys
