-- What the rows of a log come to.
use Rattle.std.proofs.Common.{◌≡◌, ◌++◌, ◌∷◌, ◌∙◌, [], ap, List, refl, sym, ℕ}
use Rattle.std.proofs.lemmas.List.{map-append}
use Rattle.std.proofs.lemmas.List.Sorted.{Contains-permutation, IsPermutation-map, IsPermutation-sym}
use Rattle.std.specs.Prelude.{IsPermutation}
use Rattle.list_laws.specs.Members.{among_from_contains, contains_from_among}
use Rattle.edit_sums.specs.declared.entries.Edit.{Edit}
use Rattle.edit_sums.specs.SumLaws.{sum_of-append, sum_of-same_edits}
use Rattle.edit_sums.specs.Sums.{join, sum_of}
use Rattle.edit_log.specs.declared.logs.LogRow.{LogRow}
use Rattle.edit_log.specs.Logs.{edits_in, stamped}

-- a sum doesn't depend on the order
pub sum_of-permutation : (xs ys : List Edit) → IsPermutation xs ys → sum_of xs ≡ sum_of ys
sum_of-permutation xs ys moved = sum_of-same_edits xs ys
    (λ e here. among_from_contains e ys (Contains-permutation xs ys e moved (contains_from_among e xs here)))
    (λ e here. among_from_contains e xs (Contains-permutation ys xs e (IsPermutation-sym xs ys moved) (contains_from_among e ys here)))

pub edits_in-stamped : (time : ℕ) (es : List Edit) → edits_in (stamped time es) ≡ es
edits_in-stamped time [] = refl
edits_in-stamped time (e ∷ es) = ap (λ l. e ∷ l) (edits_in-stamped time es)

-- what rows and more edits come to
pub added_sum : (time : ℕ) (old new : List LogRow) (es : List Edit) → IsPermutation (old ++ stamped time es) new
    → sum_of (edits_in new) ≡ join (sum_of (edits_in old)) (sum_of es)
added_sum time old new es moved =
    sym (sum_of-permutation (edits_in (old ++ stamped time es)) (edits_in new) (IsPermutation-map (λ (r : LogRow). r.edit) (old ++ stamped time es) new moved))
    ∙ ap sum_of (map-append (λ (r : LogRow). r.edit) old (stamped time es) ∙ ap (λ l. edits_in old ++ l) (edits_in-stamped time es))
    ∙ sum_of-append (edits_in old) es

-- what rows come to doesn't depend on their order
pub sum_moved : (rows others : List LogRow) → IsPermutation rows others → sum_of (edits_in rows) ≡ sum_of (edits_in others)
sum_moved rows others moved = sum_of-permutation (edits_in rows) (edits_in others) (IsPermutation-map (λ (r : LogRow). r.edit) rows others moved)
