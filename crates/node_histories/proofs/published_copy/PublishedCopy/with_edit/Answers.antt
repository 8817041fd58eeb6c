use Rattle.std.proofs.Common.{◌++◌, ◌+◌, ◌∷◌, ◌≡◌}
use Rattle.node_histories.proofs.{Prelude.{[], ap, Edit, Edited, next_version, replica_of, sym, with_edit, ◌∙◌}, Turned.{turned_edit, version_next}}
use Rattle.node_histories.proofs.published_copy.PublishedCopy.with_edit.Goals as goal

pub next_copy-requires-clause-kept : goal.next_copy-requires-clause-kept
next_copy-requires-clause-kept g c =
    let r = c.in_ok-replica.replica in
    let h = c.args.self.now.seen.log in
    let e : Edit = record { place = c.args.place; version = record { counter = c.counter.result + 1; writer = c.writer.result }; content = c.args.content } in
    let kept : r ≡ replica_of h = c.in_ok-replica.ensures.copy ∙ c.deref.ensures ∙ c.args.self.now.kept in
    let version : e.version ≡ next_version r = version_next h r c.counter.result c.writer.result kept c.counter.ensures.counter c.writer.ensures.writer in
    let turned = c.turn_to-turn in
    let parts = c.into_parts-place in
    let place = parts.ensures.place ∙ ap (λ (x : Edit). x.place) turned.ensures.what in
    let content = parts.ensures.content ∙ ap (λ (x : Edit). x.content) turned.ensures.what in
    let same : record { place = parts.result.0; version = next_version r; content = parts.result.2 } ≡ e = λ i. record { place = place i; version = sym version i; content = content i } in
    let put : c.put.new.self ≡ record r { store = with_edit r.store e } = c.in-Ok.ensures.joined ∙ ap (λ (x : Edit). record r { store = with_edit r.store x }) same in
    let seen : turned.result.0.seen ≡ h = cc in
    let ask : turned.result.0.ask ≡ Edited c.args.seat e = cc in
    turned_edit turned.result.0 h c.args.seat e r c.put.new.self c.args.self.now.legal seen ask kept put

pub returns-clause-log : goal.returns-clause-log
returns-clause-log g c =
    let r = c.in_ok-replica.replica in
    let h = c.args.self.now.seen.log in
    let e : Edit = record { place = c.args.place; version = record { counter = c.counter.result + 1; writer = c.writer.result }; content = c.args.content } in
    let kept : r ≡ replica_of h = c.in_ok-replica.ensures.copy ∙ c.deref.ensures ∙ c.args.self.now.kept in
    let version : e.version ≡ next_version r = version_next h r c.counter.result c.writer.result kept c.counter.ensures.counter c.writer.ensures.writer in
    let own : e.version ≡ c.in-Ok.version = version ∙ sym c.in-Ok.ensures.version in
    let t = c.turn_to-turn.result.0 in
    let seen : t.seen ≡ h = cc in
    let ask : t.ask ≡ Edited c.args.seat e = cc in
    c.in_ok-published_copy.ensures.log ∙ (λ i. seen i ++ ask i ∷ []) ∙ ap (λ v. h ++ Edited c.args.seat (record { place = c.args.place; version = v; content = c.args.content }) ∷ []) own
