-- Worlds of nodes that put, ask, cut and give.
-- Source (causal history, and strong eventual consistency): Shapiro, Preguica, Baquero, Zawirski 2011; asks and pieces
-- after Almeida, Shoker, Baquero 2018.
use Rattle.std.proofs.Common.{if◌then◌else◌, ◌++◌, ◌<◌, ◌==◌, ◌↔◌, ◌∷◌, ◌≡◌}
use Rattle.world_law.specs.Prelude.{[], Edit, edits_of, EntryMap, IfSome, IsAboveEdits, IsAmong, IsStoreBelow, join, List, nat_lt, None, Option, PlaceParts, replicate, slice_get, Some, suc, sum_of, zero, ℕ}
use Rattle.world_law.specs.{Cuts.{AreToldApart, at_places, cut, digest_of, VersionMap}, declared.events.Event.{Event, TheVariants.{Ask, Cut, Give, Put}}}
use Rattle.std.specs.FinMap as finmap

-- a node: its store, and the edits that it took
pub record Node : Type 0 where
  pub store : EntryMap
  pub took : List Edit

-- an ask: the node that made it, and the version that the node had at each place
pub record Asked : Type 0 where
  pub node : ℕ
  pub versions : VersionMap

-- a piece: its entries, the node whose ask it was cut for, and all edits that the cutting node had taken by then at the
-- places of the cut
pub record Piece : Type 0 where
  pub entries : EntryMap
  pub asker : ℕ
  pub had : List Edit

-- all nodes, and every ask and piece ever made
pub record EventWorld : Type 0 where
  pub nodes : List Node
  pub asks : List Asked
  pub pieces : List Piece

-- the node takes a store, which counts for these edits
abbrev pub taken : EntryMap → List Edit → Node → Node
taken s es n = record { store = join n.store s; took = n.took ++ es }

-- the nodes, with node i changed if it exists
abbrev pub changed_at : ℕ → (Node → Node) → List Node → List Node
changed_at i f [] = []
changed_at zero f (n ∷ ns) = f n ∷ ns
changed_at (suc i) f (n ∷ ns) = n ∷ changed_at i f ns

abbrev pub asked_by : EventWorld → ℕ → Option Node → EventWorld
asked_by w i None = w
asked_by w i (Some n) = record w { asks = w.asks ++ record { node = i; versions = digest_of n.store } ∷ [] }

abbrev pub cut_for : EventWorld → Option (List PlaceParts) → Option Node → Option Asked → EventWorld
cut_for w places None ask = w
cut_for w places (Some n) None = w
cut_for w places (Some n) (Some ask) =
    record w { pieces = w.pieces ++ record { entries = cut n.store ask.versions places; asker = ask.node; had = at_places places n.took } ∷ [] }

-- what a node takes with a piece: its entries, and, if the node made the ask, everything that the piece was cut from
abbrev pub edits_with : Piece → ℕ → List Edit
edits_with p k = edits_of p.entries ++ (if p.asker == k then p.had else [])

abbrev pub given_to : EventWorld → ℕ → Option Piece → EventWorld
given_to w k None = w
given_to w k (Some p) = record w { nodes = changed_at k (taken p.entries (edits_with p k)) w.nodes }

-- the effect of an event; an event that names something that doesn't exist has none
abbrev pub happens : EventWorld → Event → EventWorld
happens w (Put i e) = record w { nodes = changed_at i (taken (sum_of (e ∷ [])) (e ∷ [])) w.nodes }
happens w (Ask i) = asked_by w i (slice_get w.nodes i)
happens w (Cut j a places) = cut_for w places (slice_get w.nodes j) (slice_get w.asks a)
happens w (Give p k) = given_to w k (slice_get w.pieces p)

-- the world after these events
abbrev pub after : List Event → EventWorld → EventWorld
after [] w = w
after (e ∷ es) w = after es (happens w e)

-- n nodes with empty stores
abbrev pub blank : ℕ → EventWorld
blank n = record { nodes = replicate n (record { store = finmap.empty; took = [] }); asks = []; pieces = [] }

-- the edits that are put in a world of n nodes
abbrev pub puts_of : ℕ → List Event → List Edit
puts_of n [] = []
puts_of n (Put i e ∷ es) = if nat_lt i n then e ∷ puts_of n es else puts_of n es
puts_of n (Ask i ∷ es) = puts_of n es
puts_of n (Cut j a places ∷ es) = puts_of n es
puts_of n (Give p k ∷ es) = puts_of n es

-- each node's store is the sum of what the node took
abbrev pub EachStoreIsItsSum : ℕ → List Event → Type 0
EachStoreIsItsSum n events =
    AreToldApart (puts_of n events) → (k : ℕ) → IfSome (slice_get (after events (blank n)).nodes k) (λ node. node.store ≡ sum_of node.took)

-- it is also the least store above these edits: a store is above it exactly if it is above each of them
abbrev pub EachStoreIsLeast : ℕ → List Event → Type 0
EachStoreIsLeast n events =
    AreToldApart (puts_of n events) → (k : ℕ) → IfSome (slice_get (after events (blank n)).nodes k) (λ node. (s : EntryMap) → IsStoreBelow node.store s ↔ IsAboveEdits node.took s)

-- the same edits, in any order and with any repetitions
abbrev pub AreSameEdits : List Edit → List Edit → Type 0
AreSameEdits xs ys = ((e : Edit) → IsAmong e xs → IsAmong e ys) × ((e : Edit) → IsAmong e ys → IsAmong e xs)

-- two nodes that took the same edits hold the same store, at one moment or at two
abbrev pub SameTookSameStore : ℕ → List Event → List Event → Type 0
SameTookSameStore n before later =
    AreToldApart (puts_of n (before ++ later)) →
    (k l : ℕ) →
    IfSome (slice_get (after before (blank n)).nodes k) (λ a. IfSome (slice_get (after (before ++ later) (blank n)).nodes l) (λ b.
    AreSameEdits a.took b.took → a.store ≡ b.store))

-- what a node took; nothing if there is no such node
abbrev pub took_by : Option Node → List Edit
took_by None = []
took_by (Some n) = n.took

abbrev pub took : EventWorld → ℕ → List Edit
took w k = took_by (slice_get w.nodes k)

-- all events name only nodes below n
abbrev pub AreWithin : ℕ → List Event → Type 0
AreWithin n [] = Unit {0}
AreWithin n (Put i e ∷ es) = (i < n) × AreWithin n es
AreWithin n (Ask i ∷ es) = (i < n) × AreWithin n es
AreWithin n (Cut j a places ∷ es) = (j < n) × AreWithin n es
AreWithin n (Give p k ∷ es) = (k < n) × AreWithin n es

-- the world with one more node, whose store is empty
abbrev pub with_new_node : EventWorld → EventWorld
with_new_node w = record w { nodes = w.nodes ++ record { store = finmap.empty; took = [] } ∷ [] }
