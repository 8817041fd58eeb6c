use Rattle.std.proofs.Common.{◌≡◌}
use Rattle.delta_pieces.proofs.{Passes.{RecordsTheSame}, Prelude.{edit_of, filter, find, is_newer, is_sorted, IsTrue, join, length, map, place_cmp, sum_of}}
use Rattle.delta_pieces.proofs.newer.newer_entries.Given as goal

abbrev pub invariant-loop-placed : goal.invariant-loop-placed
invariant-loop-placed l = record {
  newer : join l.newer (sum_of (map edit_of (filter (λ p. is_newer p.1.version (find place_cmp p.0 l.versions)) l.entries))) ≡ sum_of (map edit_of (filter (λ p. is_newer p.1.version (find place_cmp p.0 l.versions)) l.fn.entries));
  sorted : IsTrue (is_sorted place_cmp l.entries);
  left_sorted : IsTrue (is_sorted place_cmp l.left);
  records : RecordsTheSame l.left l.versions l.entries;
}

abbrev pub decreases-loop-placed : goal.decreases-loop-placed
decreases-loop-placed l = length l.entries
