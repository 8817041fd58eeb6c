use Rattle.inverse_deps.proofs.Prelude.{HasAdded, IsAfterOne, take}
use Rattle.inverse_deps.proofs.following.add_following.Given as goal

abbrev pub invariant-loop-other : goal.invariant-loop-other
invariant-loop-other l = HasAdded l.initial.row.items (IsAfterOne l.may l.index (take l.other-index l.others)) l.row.items
