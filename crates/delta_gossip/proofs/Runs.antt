-- Running all events, and what holds for each node afterwards.
use Rattle.std.proofs.Common.{◌++◌, ◌+◌, ◌<◌, ◌∷◌, ◌≡◌}
use Rattle.delta_gossip.proofs.Prelude.{[], after, ap, AreSameEdits, blank, Edit, EntryMap, Event, EventWorld, get_or, happens, IfSome, IfSome_then, length, List, map, Node, None, Option, refl, replicate, Replicated, Shows, slice_get, Some, subst, suc, sum_of, sum_of-same_edits, sym, take, take_more, took, took_by, VersionMap, zero, ℕ, ◌∙◌}
use Rattle.delta_gossip.proofs.{Rounds.{stores_of}, Shown.{node_at}}
use Rattle.std.specs.FinMap as finmap

-- One more event.

after-push : (es : List Event) (e : Event) (w : EventWorld) → after (es ++ e ∷ []) w ≡ happens (after es w) e
after-push [] e w = refl
after-push (f ∷ es) e w = after-push es e (happens w f)

pub after_more : (es : List Event) (i : ℕ) (d : Event) (w : EventWorld) → i < length es → after (take (i + 1) es) w ≡ happens (after (take i es) w) (get_or es i d)
after_more es i d w h = ap (λ fs. after fs w) (take_more es i d h) ∙ after-push (take i es) (get_or es i d) w

-- Before any event.

map-replicate : {X Y : Type 0} (f : X → Y) (n : ℕ) (x : X) → map f (replicate n x) ≡ replicate n (f x)
map-replicate f zero x = refl
map-replicate {Y = Y} f (suc n) x = ap (λ (ys : List Y). f x ∷ ys) (map-replicate f n x)

pub blank_shown : (n : ℕ) (rs : List Replicated) → stores_of rs ≡ replicate n finmap.empty → Shows (blank n) (stores_of rs) [] []
blank_shown n rs h = record { stores_are = h ∙ sym (map-replicate (λ (m : Node). m.store) n _); asks_are = refl; pieces_are = refl }

-- what holds for each node's edits and store holds for each replica

pub each_shown : (w : EventWorld) (rs : List Replicated) (asks : List VersionMap) (pieces : List EntryMap) → Shows w (stores_of rs) asks pieces → (k : ℕ) (P : List Edit → EntryMap → Type 0) → IfSome (slice_get w.nodes k) (λ n. P n.took n.store) →
    IfSome (slice_get rs k) (λ r. P (took w k) r.store)
each_shown w rs asks pieces h k P is =
    elim (slice_get rs k) as (λ o. slice_get rs k ≡ o → IfSome o (λ r. P (took w k) r.store)) [
      | None ↦ λ e. tt
      | Some r ↦ λ e.
          let n = node_at w rs asks pieces h k r e in
          let one : P n.0.took n.0.store = subst (λ (o : Option Node). IfSome o (λ m. P m.took m.store)) n.1 is in
          subst (λ (s : EntryMap). P (took w k) s) n.2 (subst (λ (o : Option Node). P (took_by o) n.0.store) (sym n.1) one)
    ] refl

-- each store is the sum of what the node took, so equal edits give equal sums
pub agree_shown : (rs : List Replicated) (es : ℕ → List Edit) → ((k : ℕ) → IfSome (slice_get rs k) (λ r. r.store ≡ sum_of (es k))) →
    (k l : ℕ) → AreSameEdits (es k) (es l) → IfSome (slice_get rs k) (λ a. IfSome (slice_get rs l) (λ b. a.store ≡ b.store))
agree_shown rs es sums k l same =
    IfSome_then (slice_get rs k) (sums k)
    (λ a at_k. IfSome_then (slice_get rs l) (sums l) (λ b at_l. at_k ∙ sum_of-same_edits (es k) (es l) same.0 same.1 ∙ sym at_l))

-- two nodes at two moments
pub same_shown : (w : EventWorld) (rs : List Replicated) (asks : List VersionMap) (pieces : List EntryMap) → Shows w (stores_of rs) asks pieces → (v : EventWorld) (k l : ℕ) →
    IfSome (slice_get w.nodes k) (λ a. IfSome (slice_get v.nodes l) (λ b. AreSameEdits a.took b.took → a.store ≡ b.store)) → AreSameEdits (took w k) (took v l) →
    IfSome (slice_get rs k) (λ r. IfSome (slice_get v.nodes l) (λ b. r.store ≡ b.store))
same_shown w rs asks pieces h v k l is same =
    IfSome_then (slice_get rs k)
    (each_shown w rs asks pieces h k (λ es s. IfSome (slice_get v.nodes l) (λ b. AreSameEdits es b.took → s ≡ b.store)) is)
    (λ r alike.
    elim (slice_get v.nodes l) as (λ o. IfSome o (λ b. AreSameEdits (took w k) b.took → r.store ≡ b.store) → AreSameEdits (took w k) (took_by o) → IfSome o (λ b. r.store ≡ b.store)) [
      | None ↦ λ x y. tt
      | Some b ↦ λ x y. x y
    ] alike same)
