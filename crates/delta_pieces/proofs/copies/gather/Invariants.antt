use Rattle.std.proofs.Common.{◌≡◌}
use Rattle.delta_pieces.proofs.Prelude.{drop, edit_of, join, map, sum_of, take}
use Rattle.delta_pieces.proofs.copies.gather.Given as goal

abbrev pub invariant-loop-left : goal.invariant-loop-left
invariant-loop-left l = record {
  gathered : join l.store (sum_of (map edit_of (take l.left l.entries))) ≡ sum_of (map edit_of (take l.most l.fn.entries));
  rest : drop l.left l.entries ≡ drop l.most l.fn.entries;
}

abbrev pub decreases-loop-left : goal.decreases-loop-left
decreases-loop-left l = l.left
