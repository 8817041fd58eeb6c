use Rattle.std.proofs.Common.{◌++◌, ◌∷◌, ◌≡◌}
use Rattle.plan_choice.proofs.Prelude.{[], ap, AreInConflict, ArePairsOf, case_of, count_of, IndexedCase, inl, inr, List, more_kinds, neighbors, one_kind, opposite_is, subst, sym, within-both, within-one, ℕ, ◌∙◌}
use Rattle.plan_choice.proofs.case_sets.conflicting.Goals as goal

-- two units are in conflict where one of them names the other
are_in_conflict : (p : IndexedCase) → ArePairsOf (count_of p) (AreInConflict (case_of p)) (p.conflicts.now ∷ p.conflicted_by.now ∷ [])
are_in_conflict p = record {
  well_formed = within-both (count_of p) (p.conflicts.now ∷ []) (p.conflicted_by.now ∷ []) (within-one (count_of p) p.conflicts.now p.valid_conflicts) (within-one (count_of p) p.conflicted_by.now p.valid_conflicted_by);
  pairs = λ u v. (
    λ h. elim ((more_kinds (p.conflicts.now ∷ []) (p.conflicted_by.now ∷ []) u v).0 h) [
      | inl a ↦ inl ((one_kind p.conflicts.now u v).0 a)
      | inr a ↦ inr ((opposite_is (neighbors p.conflicts.now) (neighbors p.conflicted_by.now) p.conflicts_transposed u v).0 ((one_kind p.conflicted_by.now u v).0 a))
    ],
    λ k. (more_kinds (p.conflicts.now ∷ []) (p.conflicted_by.now ∷ []) u v).1 (elim k [
      | inl a ↦ inl ((one_kind p.conflicts.now u v).1 a)
      | inr a ↦ inr ((one_kind p.conflicted_by.now u v).1 ((opposite_is (neighbors p.conflicts.now) (neighbors p.conflicted_by.now) p.conflicts_transposed u v).1 a))
    ]),
  );
}

pub returns : goal.returns
returns c =
    let p = c.args.case.now in
    let P : List (List (List ℕ)) → Type 0 = λ ks. ArePairsOf (count_of p) (AreInConflict (case_of p)) ks in
    let first : c.push.new.self ≡ p.conflicts.now ∷ [] = c.in_ok-push.ensures.added ∙ ap (λ ks. ks ++ p.conflicts.now ∷ []) c.new-conflicting.ensures.none in
    let both : c.push-2.new.self ≡ p.conflicts.now ∷ p.conflicted_by.now ∷ [] = c.in_ok-push-2.ensures.added ∙ ap (λ ks. ks ++ p.conflicted_by.now ∷ []) first in
    subst P (sym both) (are_in_conflict p)
