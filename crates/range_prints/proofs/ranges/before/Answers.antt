use Rattle.range_prints.proofs.Bounds.{all_pass}
use Rattle.range_prints.proofs.Prelude.{from_T, is_sorted, is_sorted-where_key, IsTrue, List, place_cmp, PlaceParts, subst, sym, to_T, Version}
use Rattle.range_prints.specs.Ranges.{is_below}
use Rattle.range_prints.proofs.ranges.before.Goals as goal

pub returns-in-None-clause-before : goal.returns-in-None-clause-before
returns-in-None-clause-before c = rw c.in-None.is (sym (all_pass c.args.versions.now))

pub returns-in-Some-clause-sorted : goal.returns-in-Some-clause-sorted
returns-in-Some-clause-sorted c =
    subst (λ (l : List (PlaceParts × Version)). IsTrue (is_sorted place_cmp l)) (sym c.count_below.ensures.below) (from_T _ (is_sorted-where_key place_cmp (is_below c.in-Some.place) c.args.versions.now (to_T _ c.requires.sorted)))
