use Rattle.std.proofs.Common.{◌≡◌, ◌≢◌}
use Rattle.delta_pieces.proofs.Prelude.{find, is_sorted, IsTrue, length, Less, place_cmp, PlaceParts}
use Rattle.delta_pieces.proofs.newer.from_place.Given as goal

abbrev pub invariant-loop-next : goal.invariant-loop-next
invariant-loop-next l = record {
  sorted : IsTrue (is_sorted place_cmp l.left);
  held : (q : PlaceParts) → place_cmp q l.placed.0 ≢ Less → find place_cmp q l.left ≡ find place_cmp q l.versions;
}

abbrev pub decreases-loop-next : goal.decreases-loop-next
decreases-loop-next l = length l.left
