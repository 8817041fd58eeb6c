use Rattle.std.proofs.Common.{◌≡◌, ap, subst, sym, ◌∙◌, List}
use Rattle.std.specs.Prelude.{IsPermutation}
use Rattle.std.proofs.lemmas.List.Sorted.{IsPermutation-map, IsPermutation-trans}
use Rattle.durable_node.specs.Nodes.{Node}
use Rattle.durable_node.specs.Histories.{logged_all, logged_with}
use Rattle.durable_node.specs.declared.logs.LoggedAt.{LoggedAt}
use Rattle.durable_node.proofs.nodes.NodeFile.histories.Goals as goal

pub returns-in_ok-sort-in-Ok-clause-rows : goal.returns-in_ok-sort-in-Ok-clause-rows
returns-in_ok-sort-in-Ok-clause-rows g c honest =
    let held = g.L.EditLog.held c.self.inside.log in
    let read : c.in_ok-all-in-Ok.all.items ≡ logged_all c.in-Ok.rows.items = c.in_ok-all-in-Ok.ensures.rows ∙ ap logged_all c.deref.ensures.value in
    subst (λ (n : Node _). IsPermutation (logged_all (g.L.EditLog.held n.log)) c.sort.new.self.items) c.self.view_is
    (IsPermutation-trans _ _ _ (subst (λ (l : List LoggedAt). IsPermutation (logged_all held) l) (sym read) (IsPermutation-map logged_with _ _ (c.in-Ok.ensures.rows honest))) c.sort.ensures.permutation)
