use Rattle.std.proofs.Common.{◌≡◌, ◌++◌, ◌<◌, ◌^◌, ap, arith, List, subst, subst₂, sym, ◌∙◌}
use Rattle.edit_sums.specs.declared.entries.Edit.{Edit}
use Rattle.edit_sums.specs.{SumLaws.{join-left, store_below_refl}, Sums.{EntryMap, high_among, high_of, IsStoreBelow}}
use Rattle.replica_store.specs.Replicas.{Replicated}
use Rattle.durable_node.specs.News.{news_of}
use Rattle.durable_node.specs.NewsLaws.{news_high}
use Rattle.durable_node.specs.Nodes.{IsKept, Node}
use Rattle.durable_node.proofs.Keeping.{kept_take}
use Rattle.durable_node.proofs.nodes.NodeFile.absorb.Goals as goal

pub invariant_of-self-in-Ok : goal.invariant_of-self-in-Ok
invariant_of-self-in-Ok g c =
    let log = g.L.EditLog in
    let old : Node _ = record { log = c.self.inside.log; replica = c.self.inside.replica; unsaved = c.self.inside.unsaved.items; is_spent = c.self.inside.is_spent } in
    let store = c.self.inside.replica.store in
    let other = c.args.piece in
    let news = c.in_ok-news.ensures.news ∙ ap (λ (s : EntryMap). news_of s c.store-3.result.now) c.store-2.ensures.store ∙ ap (news_of store) c.store-3.ensures.store in
    let items : c.append.new.self.items ≡ c.self.inside.unsaved.items ++ news_of store other = c.in_ok-append.ensures.items ∙ ap (λ (l : List Edit). c.self.inside.unsaved.items ++ l) news in
    let high = c.high.ensures.high ∙ ap high_of c.store.ensures.store in
    subst₂ (λ (r : Replicated) (es : List Edit). IsKept log.is_honest log.is_running log.held (record { log = c.self.inside.log; replica = r; unsaved = es; is_spent = c.self.inside.is_spent })) (sym {A = Replicated} c.in-Ok.ensures.ok) (sym {A = List Edit} items)
    (kept_take log.is_honest log.is_running log.held old other (omega (arith, news_high store other, high, c.if-high-ge-COUNTERS.false)) c.self.invariant)

pub invariant_of-self-in-Err : goal.invariant_of-self-in-Err
invariant_of-self-in-Err g c =
    let log = g.L.EditLog in
    let old : Node _ = record { log = c.self.inside.log; replica = c.self.inside.replica; unsaved = c.self.inside.unsaved.items; is_spent = c.self.inside.is_spent } in
    let store = c.self.inside.replica.store in
    let other = c.args.piece in
    let news = c.in_ok-news.ensures.news ∙ ap (λ (s : EntryMap). news_of s c.store-3.result.now) c.store-2.ensures.store ∙ ap (news_of store) c.store-3.ensures.store in
    let items : c.append.new.self.items ≡ c.self.inside.unsaved.items ++ news_of store other = c.in_ok-append.ensures.items ∙ ap (λ (l : List Edit). c.self.inside.unsaved.items ++ l) news in
    let high = c.high.ensures.high ∙ ap high_of c.store.ensures.store in
    let kept = kept_take log.is_honest log.is_running log.held old other (omega (arith, news_high store other, high, c.if-high-ge-COUNTERS.false)) c.self.invariant in
    record {
      running = λ whole. absurd cc;
      sums = λ whole honest. absurd cc;
      counters = subst (λ (es : List Edit). high_among es < 2 ^ 63) (sym {A = List Edit} items) kept.counters;
    }

pub returns-then-high-ge-COUNTERS-clause-held : goal.returns-then-high-ge-COUNTERS-clause-held
returns-then-high-ge-COUNTERS-clause-held g c = store_below_refl c.args.self.now.replica.store

pub returns-in_err-news-clause-held : goal.returns-in_err-news-clause-held
returns-in_err-news-clause-held g c = store_below_refl c.args.self.now.replica.store

pub returns-in_err-append-clause-held : goal.returns-in_err-append-clause-held
returns-in_err-append-clause-held g c = subst (λ (n : Node _). IsStoreBelow n.replica.store c.self.inside.replica.store) c.self.view_is (store_below_refl c.self.inside.replica.store)

pub returns-in-Ok-clause-held : goal.returns-in-Ok-clause-held
returns-in-Ok-clause-held g c =
    let joined = subst (λ (r : Replicated). IsStoreBelow c.self.inside.replica.store r.store) (sym {A = Replicated} c.in-Ok.ensures.ok) (join-left c.self.inside.replica.store c.args.piece) in
    subst (λ (n : Node _). IsStoreBelow n.replica.store c.take.new.replica.store) c.self.view_is joined
