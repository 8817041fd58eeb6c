-- Histories of a node: what it opened over, and then its takes.
-- Source: this project's own, after the updates of Shapiro, Preguica, Baquero, Zawirski 2011; counters after Lamport
-- 1978.
use Rattle.std.proofs.Common.{◌++◌, ◌-◌, ◌<◌, ◌==◌, ◌∷◌, ◌≡◌}
use mathlib.Core.List.{IsPrefix}
use Rattle.node_histories.specs.Prelude.{[], Bool, changed_places, count_by, Edit, edits_of, EntryMap, false, high_among, IsAmong, length, List, Replicated, sum_of, ℕ}
use Rattle.node_histories.specs.declared.events.HistoryEvent.{HistoryEvent, TheVariants.{Absorbed, Edited, Opening}}
use Rattle.std.specs.FinMap as finmap

-- the edits that an event brings
abbrev pub edits_in : HistoryEvent → List Edit
edits_in (Opening replica) = edits_of replica.store
edits_in (Edited seat edit) = edit ∷ []
edits_in (Absorbed seat piece) = edits_of piece

-- all edits of a history, with those of the opening
abbrev pub all_edits : List HistoryEvent → List Edit
all_edits [] = []
all_edits (x ∷ xs) = edits_in x ++ all_edits xs

-- the store that a history gives: the sum of its edits
abbrev pub store_of : List HistoryEvent → EntryMap
store_of h = sum_of (all_edits h)

-- the greatest counter of its edits
abbrev pub counter_of : List HistoryEvent → ℕ
counter_of h = high_among (all_edits h)

-- how many takes it has
abbrev pub takes_in : List HistoryEvent → ℕ
takes_in h = length h - 1

-- the replica that it opened over; an empty one if it has no opening
abbrev pub opening_of : List HistoryEvent → Replicated
opening_of [] = record { store = finmap.empty; writer = 0 }
opening_of (Opening replica ∷ h) = replica
opening_of (Edited seat edit ∷ h) = record { store = finmap.empty; writer = 0 }
opening_of (Absorbed seat piece ∷ h) = record { store = finmap.empty; writer = 0 }

-- the replica that a history gives: its store, under the number of the replica that it opened over
abbrev pub replica_of : List HistoryEvent → Replicated
replica_of h = record { store = store_of h; writer = (opening_of h).writer }

-- the event may come after these edits: an edit must have the writer's number and a counter above all of theirs
abbrev pub IsNext : ℕ → List Edit → HistoryEvent → Type 0
IsNext writer before (Opening replica) = ⊥
IsNext writer before (Edited seat edit) = (edit.version.writer ≡ writer) × (high_among before < edit.version.counter)
IsNext writer before (Absorbed seat piece) = Unit {0}

abbrev pub IsLegalAfter : ℕ → List Edit → List HistoryEvent → Type 0
IsLegalAfter writer before [] = Unit {0}
IsLegalAfter writer before (x ∷ xs) = IsNext writer before x × IsLegalAfter writer (before ++ edits_in x) xs

-- it opened over this replica, and the rest are takes, each of which may come after all before it
abbrev pub IsLegal : Replicated → List HistoryEvent → Type 0
IsLegal start [] = ⊥
IsLegal start (Opening replica ∷ h) = (replica ≡ start) × IsLegalAfter start.writer (edits_of start.store) h
IsLegal start (Edited seat edit ∷ h) = ⊥
IsLegal start (Absorbed seat piece ∷ h) = ⊥

-- the event is a take of this seat
abbrev pub is_take_of : ℕ → HistoryEvent → Bool
is_take_of seat (Opening replica) = false
is_take_of seat (Edited by edit) = by == seat
is_take_of seat (Absorbed by piece) = by == seat

-- how many of the takes are this seat's
abbrev pub takes_of : ℕ → List HistoryEvent → ℕ
takes_of seat h = count_by (λ x. is_take_of seat x) h

-- the history is all that was seen before, then perhaps takes of others, and last this event
abbrev pub EndsWith : List HistoryEvent → List HistoryEvent → HistoryEvent → Type 0
EndsWith seen h x = (before : List HistoryEvent) × IsPrefix seen before × (h ≡ before ++ x ∷ [])

-- the same, and this many places changed at the event
abbrev pub EndsChanging : List HistoryEvent → List HistoryEvent → HistoryEvent → ℕ → Type 0
EndsChanging seen h x changed = (before : List HistoryEvent) × IsPrefix seen before × (h ≡ before ++ x ∷ []) × (changed ≡ changed_places (store_of before) (store_of h))

-- the edit has the writer's number, and a counter above that of each edit before it
abbrev pub IsAbove : ℕ → List Edit → Edit → Type 0
IsAbove writer before e = (e.version.writer ≡ writer) × ((f : Edit) → IsAmong f before → f.version.counter < e.version.counter)
