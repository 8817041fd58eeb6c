use Rattle.std.proofs.Common.{◌≡◌}
use Rattle.range_prints.proofs.Bounds.{both_tests}
use Rattle.range_prints.proofs.Prelude.{All, ap, filter_passes, from_T, is_sorted, is_sorted-where_key, IsTrue, List, not, place_cmp, PlaceParts, refl, subst, sym, take_rest, to_T, true, Version, ◌∙◌}
use Rattle.range_prints.specs.Ranges.{is_before, is_below, is_within, those, within}
use Rattle.range_prints.proofs.ranges.within.Goals as goal

pub returns-in-None-clause-inside : goal.returns-in-None-clause-inside
returns-in-None-clause-inside c =
    let all : those (is_before c.args.range.now.until) c.args.versions.now ≡ within c.args.range.now c.args.versions.now = rw c.in-None.is refl in
    subst (λ (l : List (PlaceParts × Version)). All (λ (v : PlaceParts × Version). is_within c.args.range.now v.0 ≡ true) l) (sym (c.before-before.ensures.before ∙ all)) (filter_passes (λ (v : PlaceParts × Version). is_within c.args.range.now v.0) c.args.versions.now)

pub returns-in-Some : goal.returns-in-Some
returns-in-Some c =
    let later = λ (p : PlaceParts). not (is_below c.in-Some.place p) in
    let all = take_rest c.before-before.result.now c.count_below.result in
    let parts = ap (λ (l : List (PlaceParts × Version)). those later l) c.before-before.ensures.before in
    let same = all ∙ c.count_below.ensures.others ∙ parts ∙ rw c.in-Some.is (both_tests later (is_before c.args.range.now.until) c.args.versions.now) in
    record {
      within = same;
      sorted = subst (λ (l : List (PlaceParts × Version)). IsTrue (is_sorted place_cmp l)) (sym same) (from_T _ (is_sorted-where_key place_cmp (is_within c.args.range.now) c.args.versions.now (to_T _ c.requires.sorted)));
      inside = subst (λ (l : List (PlaceParts × Version)). All (λ (v : PlaceParts × Version). is_within c.args.range.now v.0 ≡ true) l) (sym same) (filter_passes (λ (v : PlaceParts × Version). is_within c.args.range.now v.0) c.args.versions.now);
    }
