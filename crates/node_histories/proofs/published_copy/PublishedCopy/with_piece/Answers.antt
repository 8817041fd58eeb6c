use Rattle.std.proofs.Common.{◌≡◌}
use Rattle.node_histories.proofs.{Prelude.{Absorbed, ap, changed_places, EntryMap, join, replica_of, store_of, ◌∙◌}, Turned.{turned_piece}}
use Rattle.node_histories.proofs.published_copy.PublishedCopy.with_piece.Goals as goal

pub next_copy-requires-clause-kept : goal.next_copy-requires-clause-kept
next_copy-requires-clause-kept g c =
    let r = c.in_ok-replica.replica in
    let h = c.args.self.now.seen.log in
    let t = c.turn_to-turn.result.0 in
    let seen : t.seen ≡ h = cc in
    let ask : t.ask ≡ Absorbed c.args.seat c.args.piece = cc in
    let kept : r ≡ replica_of h = c.in_ok-replica.ensures.copy ∙ c.deref.ensures ∙ c.args.self.now.kept in
    let taken : c.take.new.replica ≡ record r { store = join r.store c.args.piece } = c.in-Ok.ensures.ok ∙ ap (λ (p : EntryMap). record r { store = join r.store p }) c.turn_to-turn.ensures.what in
    turned_piece t h c.args.seat c.args.piece r c.take.new.replica c.args.self.now.legal seen ask kept taken

pub returns-clause-changed : goal.returns-clause-changed
returns-clause-changed g c =
    let r = c.in_ok-replica.replica in
    let h = c.args.self.now.seen.log in
    let was : r.store ≡ store_of h = ap (λ q. q.store) (c.in_ok-replica.ensures.copy ∙ c.deref.ensures ∙ c.args.self.now.kept) in
    let now : c.take.new.replica.store ≡ store_of c.in_ok-published_copy.published_copy.seen.log = ap (λ q. q.store) c.in_ok-published_copy.ensures.replica in
    let n : c.in-Ok.changed ≡ changed_places r.store c.take.new.replica.store = c.in-Ok.ensures.changed in
    n ∙ (λ i. changed_places (was i) (now i))
