use Rattle.std.proofs.Common.{◌≡◌}
use Rattle.host_trees.proofs.{Made.{made, made_is_tree}, Prelude.{ap, merged, Content, Fleet, IfOk-weaker, IsTree, List, option_copied, PathParts, seen_in, Some, subst, sym, tree_of, ◌∙◌}}
use Rattle.std.specs.FinMap as finmap
use Rattle.host_trees.proofs.trees.tree.Goals as goal

pub returns : goal.returns
returns c =
    let s = c.args.store.now in
    let host = option_copied c.args.host in
    let all : tree_of c.in_ok-of.field-0 ≡ made s host =
    ap tree_of (c.in_ok-of.ensures.merged
    ∙ ap (λ o. merged (seen_in o (finmap.entries s)) (seen_in (Some Fleet) (finmap.entries s))) (c.as_ref.ensures.value ∙ c.in_ok-own.ensures.scope)) in
    record {
      tree =
          IfOk-weaker c.tree.result (λ tree. tree.items ≡ tree_of c.in_ok-of.field-0) (λ tree. IsTree s host tree.items)
          (λ tree e. subst (λ (items : List (PathParts × Content)). IsTree s host items) (sym (e ∙ all)) (made_is_tree s host))
          c.tree.ensures.tree;
    }
