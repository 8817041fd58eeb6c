-- What a side takes and answers, as events of a world.
-- Source: this project's own.
use Rattle.std.proofs.Common.{◌++◌, ◌∷◌, ◌≡◌}
use Rattle.exchange_session.specs.Answered.{piece_for, places_within}
use Rattle.exchange_session.specs.Prelude.{[], at_places, Cut, digest_of, digest_within, EntryMap, EventWorld, happens, Node, slice_get, Some, ℕ, versions_of}
use Rattle.world_law.specs.Worlds as world
use Rattle.exchange_session.specs.declared.messages.{RangeAsk.{RangeAsk}}

-- the ask tells a part of ask number a, which was made of a store
abbrev pub IsPartOf : EventWorld → ℕ → EntryMap → world.Asked → RangeAsk → Type 0
IsPartOf w a s asked it =
    (slice_get w.asks a ≡ Some asked) × ((asked.versions ≡ digest_of s) × (it.versions ≡ digest_within it.range s))

-- the piece that node k answers to such an ask with is the one that it cuts for ask number a, at its places in the range
abbrev pub CutsForParts : Type 0
CutsForParts =
    (w : EventWorld) (k a : ℕ) (node : Node) (s : EntryMap) (asked : world.Asked) (it : RangeAsk) →
    slice_get w.nodes k ≡ Some node → IsPartOf w a s asked it →
    let places = places_within it.range (versions_of node.store) in
    (happens w (Cut k a (Some places))).pieces
    ≡ w.pieces ++ record { entries = piece_for node.store it; asker = asked.node; had = at_places (Some places) node.took } ∷ []
