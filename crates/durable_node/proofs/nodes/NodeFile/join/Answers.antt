use Rattle.std.proofs.Common.{◌≡◌, ◌++◌, ap, arith, subst₂, sym, ◌∙◌, List}
use Rattle.edit_sums.specs.declared.entries.Edit.{Edit}
use Rattle.edit_sums.specs.Sums.{EntryMap}
use Rattle.replica_store.specs.Replicas.{Replicated}
use Rattle.durable_node.specs.News.{news_of}
use Rattle.durable_node.specs.NewsLaws.{news_high}
use Rattle.durable_node.specs.Nodes.{IsKept, Node}
use Rattle.durable_node.proofs.Keeping.{kept_take}
use Rattle.durable_node.proofs.nodes.NodeFile.join.Goals as goal

pub invariant_of-self-2 : goal.invariant_of-self-2
invariant_of-self-2 g c =
    let log = g.L.EditLog in
    let old : Node _ = record { log = c.self.inside.log; replica = c.self.inside.replica; unsaved = c.self.inside.unsaved.items; is_spent = c.self.inside.is_spent } in
    let store = c.self.inside.replica.store in
    let other = c.args.other.now in
    let items : c.append.new.self.items ≡ c.self.inside.unsaved.items ++ news_of store other =
    c.in_ok-append.ensures.items ∙ ap (λ (l : List Edit). c.self.inside.unsaved.items ++ l) (c.in_ok-news.ensures.news ∙ ap (λ (s : EntryMap). news_of s other) c.store.ensures.store) in
    subst₂ (λ (r : Replicated) (es : List Edit). IsKept log.is_honest log.is_running log.held (record { log = c.self.inside.log; replica = r; unsaved = es; is_spent = c.self.inside.is_spent })) (sym {A = Replicated} c.in_ok-next.ensures.joined) (sym {A = List Edit} items)
    (kept_take log.is_honest log.is_running log.held old other (omega (arith, news_high store other, c.high.ensures.high, c.if-high-ge-COUNTERS.false)) c.self.invariant)
