use Rattle.std.proofs.Common.{[], All, IsTrue, length, true, ◌*◌, ◌+◌, ◌++◌, ◌-◌, ◌<◌, ◌∷◌, ◌≡◌, ◌≤◌}
use Rattle.std.specs.FinMap.{is_sorted}
use Rattle.load_places.specs.Places.{place_cmp}
use Rattle.range_prints.proofs.CutRanges.{between}
use Rattle.range_prints.specs.Ranges.{ArePartsOf, is_within}
use Rattle.range_prints.proofs.cuts.parts.Given as goal

abbrev pub invariant-loop-next : goal.invariant-loop-next
invariant-loop-next l = record {
  share : 0 < l.share;
  spread : length l.versions ≤ l.share * l.count;
  few : length l.parts.items < l.count;
  behind : length l.left ≡ length l.versions - (length l.parts.items + 1) * l.share;
  parts : ArePartsOf l.fn.range (l.parts.items ++ between l.from l.last ∷ []);
  sorted : IsTrue (is_sorted place_cmp l.left);
  within : All (λ v. is_within (between l.from l.last) v.0 ≡ true) l.left;
}

abbrev pub decreases-loop-next : goal.decreases-loop-next
decreases-loop-next l = length l.left
