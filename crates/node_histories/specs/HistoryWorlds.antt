-- The execution of a history: node 0 does its takes; nodes of its own do all else that is needed.
-- Source: this project's own, over worlds after Shapiro, Preguica, Baquero, Zawirski 2011.
use Rattle.std.proofs.Common.{◌++◌, ◌∷◌}
use Rattle.node_histories.specs.{declared.events.HistoryEvent.{HistoryEvent, TheVariants.{Absorbed, Edited, Opening}}, Prelude.{[], Ask, Cut, Edit, edits_of, EntryMap, Give, List, None, Put, suc, zero, ℕ}}
use Rattle.world_law.specs.declared.events.Event as world_events

-- twice a number
abbrev pub double : ℕ → ℕ
double zero = zero
double (suc n) = suc (suc (double n))

-- a node puts these edits
abbrev pub puts_at : ℕ → List Edit → List world_events.Event
puts_at i [] = []
puts_at i (e ∷ es) = Put i e ∷ puts_at i es

-- one node puts what a store holds, cuts it for the ask of a second, and the piece is given to node 0; each store has
-- two such nodes of its own, after those of the stores before it
abbrev pub brings : ℕ → EntryMap → List world_events.Event
brings before s = puts_at (suc (double before)) (edits_of s) ++ Ask (suc (suc (double before))) ∷ Cut (suc (double before)) before None ∷ Give before 0 ∷ []

-- the events of a history after so many stores: node 0 puts each edit and is given each piece, first that of the
-- opening
abbrev pub world_from : ℕ → List HistoryEvent → List world_events.Event
world_from before [] = []
world_from before (Opening replica ∷ h) = brings before replica.store ++ world_from (suc before) h
world_from before (Edited seat edit ∷ h) = Put 0 edit ∷ world_from before h
world_from before (Absorbed seat piece ∷ h) = brings before piece ++ world_from (suc before) h

abbrev pub world_of : List HistoryEvent → List world_events.Event
world_of h = world_from 0 h

-- how many stores a history brings
abbrev pub stores_in : List HistoryEvent → ℕ
stores_in [] = 0
stores_in (Opening replica ∷ h) = suc (stores_in h)
stores_in (Edited seat edit ∷ h) = stores_in h
stores_in (Absorbed seat piece ∷ h) = suc (stores_in h)

-- how many nodes its execution has
abbrev pub nodes_of : List HistoryEvent → ℕ
nodes_of h = suc (double (stores_in h))
