-- How worlds of the program correspond to worlds of the model.
-- Source: this project's own.
use Rattle.std.proofs.Common.{◌≡◌}
use Rattle.delta_gossip.specs.{declared.worlds.World.{World}, Prelude.{after, blank, Edit, EntryMap, Event, EventWorld, IfSome, List, map, slice_get, took, VersionMap, ℕ}}

-- these are the stores, asks and pieces of the world
pub record Shows (w : EventWorld) (stores : List EntryMap) (asks : List VersionMap) (pieces : List EntryMap) : Type 0 where
  pub stores_are : stores ≡ map (λ n. n.store) w.nodes
  pub asks_are : asks ≡ map (λ a. a.versions) w.asks
  pub pieces_are : pieces ≡ map (λ p. p.entries) w.pieces

-- the replicas, asks and pieces of the program are those of the world
abbrev pub IsWorld : EventWorld → World → Type 0
IsWorld w r = Shows w (map (λ s. s.store) r.replicas.items) r.asks.items r.pieces.items

-- the model world of n nodes after these events
abbrev pub world_after : ℕ → List Event → EventWorld
world_after n events = after events (blank n)

-- what node k took in these events, in the order in which it took it
abbrev pub took_after : ℕ → List Event → ℕ → List Edit
took_after n events k = took (world_after n events) k

-- the store of node k after these events has this property, if there is such a node
abbrev pub NodeHolds : ℕ → List Event → ℕ → (EntryMap → Type 0) → Type 0
NodeHolds n events k P = IfSome (slice_get (world_after n events).nodes k) (λ node. P node.store)

-- the store of replica k has this property, if there is such a replica
abbrev pub ReplicaHolds : World → ℕ → (EntryMap → Type 0) → Type 0
ReplicaHolds world k P = IfSome (slice_get world.replicas.items k) (λ replica. P replica.store)
