use Rattle.std.proofs.Common.{◌++◌, ◌+◌, ◌∷◌, ◌≡◌}
use Rattle.inverse_deps.proofs.Prelude.{[], After, ap, dependency, Dependency, get_or, Global, IsAfterOne, IsAmong, List, subst, take, take_more, Vec, ℕ, ◌∙◌}
use Rattle.inverse_deps.proofs.{Adding.{added_both, added_none, added_one}, Pulling.{denied, one_more_after, same_after}, following.add_following.Goals.{else-not-has, then-not-has+in_ok-push}}
use Rattle.inverse_deps.proofs.following.add_following.Goals as goal

pub loop-other-preserved : goal.loop-other-preserved
loop-other-preserved c =
    let may : List (List ℕ) = c.args.may.now in
    let index = c.args.index in
    let others : List ℕ = c.args.others.now in
    let i = c.loop-other.other-index in
    let x : ℕ = get_or others i 0 in
    let more : take (i + 1) others ≡ take i others ++ x ∷ [] = take_more others i 0 c.loop-other-test.true in
    let P : Dependency → Type 0 = IsAfterOne may index (take i others) in
    let R : Dependency → Type 0 = IsAfterOne may index (take (i + 1) others) in
    let old : List Dependency = c.args.row.now.items in
    elim c.if-not-has.branch [
      | then-not-has+in_ok-push w ↦
          (let free = denied c.has.result (IsAmong index c.neighbors.result.now) c.has.ensures.among w.if-not-has.true in
          added_both P (λ one. dependency After x ≡ one) R old c.loop-other.row.items c.if-not-has.row.items c.loop-other.invariant
          (added_one (dependency After x) c.loop-other.row.items c.if-not-has.row.items (ap (λ (v : Vec Dependency Global). v.items) w.row-is ∙ w.in_ok-push.ensures.items))
          (λ one. one_more_after may index (take i others) (take (i + 1) others) x more one (subst (λ (is : List ℕ). ¬ IsAmong index is) c.neighbors.ensures free)))
      | else-not-has w ↦
          (let bound = c.has.ensures.among.0 w.if-not-has.false in
          added_both P (λ one. ⊥) R old c.loop-other.row.items c.if-not-has.row.items c.loop-other.invariant
          (added_none (λ one. ⊥) c.loop-other.row.items c.if-not-has.row.items (ap (λ (v : Vec Dependency Global). v.items) w.row-is) (λ one n. n))
          (λ one. same_after may index (take i others) (take (i + 1) others) x more one (subst (λ (is : List ℕ). IsAmong index is) c.neighbors.ensures bound)))
    ]
