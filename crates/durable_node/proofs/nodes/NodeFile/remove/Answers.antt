use Rattle.std.proofs.Common.{◌≡◌, ◌++◌, ◌∷◌, [], ap, subst₂, sym, ◌∙◌, List}
use Rattle.join_law.specs.declared.versions.Version.{Version}
use Rattle.edit_sums.specs.declared.contents.Content.TheVariants.{Gone}
use Rattle.edit_sums.specs.declared.entries.Edit.{Edit}
use Rattle.replica_store.specs.Replicas.{Replicated, with_put}
use Rattle.durable_node.specs.Nodes.{IsKept, Node}
use Rattle.durable_node.proofs.Keeping.{kept_put, noted_is}
use Rattle.durable_node.proofs.nodes.NodeFile.remove.Goals as goal

pub invariant_of-self-in-Ok : goal.invariant_of-self-in-Ok
invariant_of-self-in-Ok g c =
    let log = g.L.EditLog in
    let old : Node _ = record { log = c.self.inside.log; replica = c.self.inside.replica; unsaved = c.self.inside.unsaved.items; is_spent = c.self.inside.is_spent } in
    let e : Edit = record { place = c.args.place; version = c.in-Some.version; content = Gone } in
    let items : c.noted.new.list.items ≡ c.self.inside.unsaved.items ++ e ∷ [] = noted_is c.copied.result _ _ e c.in_ok-noted.ensures.made c.in_ok-noted.ensures.ok c.copied.ensures.edit in
    let replica : c.remove.new.self ≡ with_put c.self.inside.replica e = c.in-Ok.ensures.joined ∙ ap (λ (v : Version). with_put c.self.inside.replica (record e { version = v })) (sym c.in-Some.ensures.next.0) in
    subst₂ (λ (r : Replicated) (es : List Edit). IsKept log.is_honest log.is_running log.held (record { log = c.self.inside.log; replica = r; unsaved = es; is_spent = c.self.inside.is_spent })) (sym {A = Replicated} replica) (sym {A = List Edit} items)
    (kept_put log.is_honest log.is_running log.held old e c.in-Some.ensures.next.1 c.self.invariant)
