use Rattle.inverse_deps.proofs.Prelude.{[], Dependency, get_or, HasAdded, IsFollowing, List, made_more, same_at, subst, ℕ, ◌∙◌}
use Rattle.inverse_deps.proofs.following.followed_rows.Goals as goal

pub loop-index-preserved : goal.loop-index-preserved
loop-index-preserved c =
    let given : List (List Dependency) = c.args.given.now in
    let i = c.loop-index.index in
    let made : List Dependency = c.in_ok-followed_row.field-0 in
    let P : ℕ → List Dependency → Type 0 = λ k row. HasAdded (get_or given k []) (IsFollowing c.args.may.now k) row in
    made_more P i c.loop-index.rows.items c.push.new.self.items made c.loop-index.invariant c.in_ok-push.ensures.items
    (subst (λ (ds : List Dependency). HasAdded ds (IsFollowing c.args.may.now i) made) (c.index-given-index.is ∙ same_at given i c.index-given-index.result [] c.loop-index-test.true) c.in_ok-followed_row.ensures.row)
