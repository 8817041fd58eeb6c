use Rattle.std.proofs.Common.{◌≡◌}
use Rattle.inverse_deps.proofs.Prelude.{Dependency, HasAdded, IfOk-weaker, IsAfterOne, IsFollowing, List, subst, sym, ℕ, ◌∙◌}
use Rattle.inverse_deps.proofs.following.followed_row.Goals as goal

pub returns : goal.returns
returns c =
    let may = c.args.may.now in
    let index = c.args.index in
    let deps : List Dependency = c.args.deps.now in
    let base : c.in_ok-row.row.items ≡ deps = c.in_ok-row.ensures.items ∙ c.as_slice.ensures.elements ∙ c.get.ensures.value in
    let row : List Dependency = c.add_following.new.row.items in
    let there : HasAdded deps (IsFollowing may index) row = subst (λ (is : List ℕ). HasAdded deps (IsAfterOne may index is) row) c.neighbors-others.ensures
    (subst (λ (ds : List Dependency). HasAdded ds (IsAfterOne may index c.neighbors-others.result.now) row) base c.in_ok-add_following.ensures.row) in
    record {
      row = IfOk-weaker c.new.result (λ (made : List Dependency). made ≡ c.from_vec.result) (HasAdded deps (IsFollowing may index))
          (λ made e. subst (HasAdded deps (IsFollowing may index)) (sym (e ∙ c.from_vec.ensures.elements)) there) c.new.ensures.value;
    }
