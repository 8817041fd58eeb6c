-- The nodes that a node knows, each once.
-- Source: this project's own.
use Rattle.std.specs.Prelude.{◌≡◌, ◌≤◌, ◌∷◌, [], Bool, false, if◌then◌else◌, List, Option, None, Some, slice_get}
use Rattle.std.specs.Cmp.Lexicographic.{slice_cmp}
use Rattle.std.specs.List.Sorted.{IsStrictlySortedBy}
use Rattle.std.specs.Ordering.{is_eq, nat_cmp, ordering_then}
use Rattle.std.specs.declared.cmp.Ordering.{Ordering}
use Rattle.list_laws.specs.Members.{IsAmong}
use Rattle.edit_log.specs.declared.logs.LogPeer.{LogPeer}

-- by mark, then by number
abbrev pub node_cmp : LogPeer → LogPeer → Ordering
node_cmp p q = ordering_then (slice_cmp nat_cmp p.mark q.mark) (nat_cmp p.writer q.writer)

-- of some peers each node once, as it was seen last, in the order of marks and numbers
pub record AreLatest (peers latest : List LogPeer) : Type 0 where
  pub among : (p : LogPeer) → IsAmong p latest → IsAmong p peers
  pub seen : (p : LogPeer) → IsAmong p peers
      → (q : LogPeer) × IsAmong q latest × (q.mark ≡ p.mark) × (q.writer ≡ p.writer) × (p.seen ≤ q.seen)
  pub once : IsStrictlySortedBy node_cmp latest

-- ---- how they are found

-- whether a peer of the same node follows
abbrev pub is_followed : LogPeer → Option LogPeer → Bool
is_followed p None = false
is_followed p (Some q) = is_eq (node_cmp p q)

-- of peers in order those that no peer of the same node follows
abbrev pub last_of_each : List LogPeer → List LogPeer
last_of_each [] = []
last_of_each (p ∷ ps) = if is_followed p (slice_get ps 0) then last_of_each ps else p ∷ last_of_each ps
