use Rattle.std.proofs.Common.{◌≡◌, ap, subst, sym, ◌∙◌, List}
use Rattle.std.specs.Prelude.{IsPermutation}
use Rattle.std.proofs.lemmas.List.Sorted.{IsPermutation-trans}
use Rattle.edit_log.specs.declared.logs.LogRow.{LogRow}
use Rattle.durable_node.specs.Nodes.{Node}
use Rattle.durable_node.specs.Histories.{logged_at}
use Rattle.durable_node.specs.declared.histories.Logged.{Logged}
use Rattle.durable_node.proofs.Keeping.{logged_moved}
use Rattle.durable_node.proofs.nodes.NodeFile.history.Goals as goal

pub returns-in_ok-sort-in-Ok-clause-rows : goal.returns-in_ok-sort-in-Ok-clause-rows
returns-in_ok-sort-in-Ok-clause-rows g c honest =
    let place = c.args.place.now in
    let read : c.in_ok-logged-in-Ok.logged.items ≡ logged_at place c.in-Ok.rows.items = c.in_ok-logged-in-Ok.ensures.rows ∙ ap (λ (rs : List LogRow). logged_at place rs) c.deref.ensures.value in
    subst (λ (n : Node _). IsPermutation (logged_at place (g.L.EditLog.held n.log)) c.sort.new.self.items) c.self.view_is (IsPermutation-trans _ _ _ (subst (λ (l : List Logged). IsPermutation (logged_at place (g.L.EditLog.held c.self.inside.log)) l) (sym read) (logged_moved place (g.L.EditLog.held c.self.inside.log) c.in-Ok.rows.items (c.in-Ok.ensures.rows honest))) c.sort.ensures.permutation)
