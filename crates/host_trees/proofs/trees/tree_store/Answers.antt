use Rattle.std.proofs.Common.{◌≡◌}
use Rattle.host_trees.proofs.{Prelude.{ap, EntryMap, IfOk-weaker, IsTree, List, Option, ShowsTree, subst, sum_of, sym, ℕ, ◌∙◌}, Stored.{sum_shows_tree}}
use Rattle.host_trees.proofs.trees.tree_store.Goals as goal

pub returns-clause-tree : goal.returns-clause-tree
returns-clause-tree c =
    let tree = c.args.tree.now in
    let edits = c.as_slice.ensures.value ∙ c.in_ok-edits.ensures.edits in
    IfOk-weaker c.from_edits.result (λ store. store ≡ sum_of c.as_slice.result.now) (λ store. (s : EntryMap) (host : Option (List ℕ)) → IsTree s host tree → ShowsTree store s host)
    (λ store e s host is. subst (λ (m : EntryMap). ShowsTree m s host) (sym (e ∙ ap sum_of edits)) (sum_shows_tree s host tree is))
    c.from_edits.ensures.sum
