use Rattle.std.proofs.Common.{◌≡◌}
use Rattle.left_right.specs.Sides.{view}
use Rattle.shared_node.proofs.{Latest.{History, IsPosted, sent}, Prelude.{drop, latest, newest, None, Option, PublishedCopy, subst, sym}}
use Rattle.shared_node.proofs.post.Post.send.Goals as goal

pub invariant_of-self : goal.invariant_of-self
invariant_of-self g c =
    let b = g.N.NodeName.book in
    let o = g.N.NodeName.opening in
    let w = c.self.inside.writer in
    let h = c.hand.new.writer in
    let l : History = newest (λ q. q.seen) h.desk.shown.value.seen (drop h.behind h.log.items) c.hand.new.pending in
    subst (λ d. IsPosted b o (view d.place) d.shown.value.seen l) (sym c.hand.ensures.desk)
    (subst (λ (k : History). IsPosted b o (view w.desk.place) w.desk.shown.value.seen k) (sym c.hand.ensures.due) c.self.invariant)

pub invariant_of-self-2 : goal.invariant_of-self-2
invariant_of-self-2 g c =
    let b = g.N.NodeName.book in
    let o = g.N.NodeName.opening in
    let w = c.self.inside.writer in
    let h = c.hand.new.writer in
    let n = c.replace_with.new.dest in
    let r = c.replace_with.result in
    let handed : c.hand.new.pending ≡ None = c.in_ok-hand.ensures.handed in
    let s : History = h.desk.shown.value.seen in
    let t : History = n.desk.shown.value.seen in
    let l : History = latest (λ q. q.seen) s (drop h.behind h.log.items) in
    let k : History = latest (λ q. q.seen) t (drop n.behind n.log.items) in
    let due : l ≡ newest (λ q. q.seen) w.desk.shown.value.seen (drop w.behind w.log.items) c.self.inside.pending =
    subst (λ (p : Option PublishedCopy). newest (λ q. q.seen) s (drop h.behind h.log.items) p ≡ newest (λ q. q.seen) w.desk.shown.value.seen (drop w.behind w.log.items) c.self.inside.pending) handed c.hand.ensures.due in
    let posted : IsPosted b o (view h.desk.place) s l =
    subst (λ d. IsPosted b o (view d.place) d.shown.value.seen l) (sym c.hand.ensures.desk)
    (subst (λ (x : History). IsPosted b o (view w.desk.place) w.desk.shown.value.seen x) (sym due) c.self.invariant) in
    let after : IsPosted b o (view n.desk.place) t k = sent b o r s t l k (view h.desk.place) (view n.desk.place) posted c.replace_with.ensures.0 c.replace_with.ensures.1 in
    subst (λ (p : Option PublishedCopy). IsPosted b o (view n.desk.place) t (newest (λ q. q.seen) t (drop n.behind n.log.items) p)) (sym handed) after
