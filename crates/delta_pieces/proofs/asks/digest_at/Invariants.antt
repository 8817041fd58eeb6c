use Rattle.delta_pieces.proofs.{AtPlaces.{Records}, Prelude.{is_sorted, IsTrue, place_cmp, take}}
use Rattle.delta_pieces.proofs.asks.digest_at.Given as goal

abbrev pub invariant-loop-place : goal.invariant-loop-place
invariant-loop-place l = record {
  sorted : IsTrue (is_sorted place_cmp l.versions.items);
  records : Records l.replica.store (take l.place-index l.places) l.versions.items;
}
