-- The lives of nodes that last, as events of a world: an open after a crash is a node more, at which the edits that stand in
-- the log are put first.
use Rattle.std.proofs.Common.{◌+◌, ◌++◌, ◌∷◌, ◌≡◌, ◌⊎◌}
use Rattle.lasting_worlds.specs.Prelude.{[], after_one, all_of, Commit, Edit, Event, EventWorld, Happening, IsAmong, IsAskedFor, List, Lived, map, Node, own_edit, Put, Restart, slice_get, Some, suc, sum_of, Take, ℕ}
use Rattle.edit_log.specs.Lives.{after as lived_after}
use Rattle.world_law.specs.declared.events.Event.TheVariants as event

-- a node that lasts: its writer, the edits that stood in its log at first, and what happened then
pub record Life : Type 0 where
  pub writer : ℕ
  pub logged : List Edit
  pub happenings : List Happening

-- what it began with
abbrev pub start_of : Life → Lived
start_of life = record { logged = life.logged; unsaved = [] }

-- all edits that it holds in the end
abbrev pub held_by : Life → List Edit
held_by life = all_of (lived_after life.writer (start_of life) life.happenings)

-- how often it opened anew
abbrev pub restarts : List Happening → ℕ
restarts [] = 0
restarts (Put place content ∷ hs) = restarts hs
restarts (Take edits ∷ hs) = restarts hs
restarts (Commit ∷ hs) = restarts hs
restarts (Restart whole ∷ hs) = suc (restarts hs)

-- these edits, put at a node
abbrev pub puts_at : ℕ → List Edit → List Event
puts_at i edits = map (event.Put i) edits

-- what happens to a node with an index that holds these, and to the nodes after it, one for each open
abbrev pub life_events : ℕ → ℕ → Lived → List Happening → List Event
life_events i writer s [] = []
life_events i writer s (Put place content ∷ hs) = puts_at i (own_edit writer (all_of s) place content ∷ []) ++ life_events i writer (after_one writer s (Put place content)) hs
life_events i writer s (Take edits ∷ hs) = puts_at i edits.items ++ life_events i writer (after_one writer s (Take edits)) hs
life_events i writer s (Commit ∷ hs) = life_events i writer (after_one writer s Commit) hs
life_events i writer s (Restart whole ∷ hs) = puts_at (suc i) (after_one writer s (Restart whole)).logged ++ life_events (suc i) writer (after_one writer s (Restart whole)) hs

-- how many nodes of a world these are
abbrev pub nodes_of : List Life → ℕ
nodes_of [] = 0
nodes_of (life ∷ lives) = suc (restarts life.happenings) + nodes_of lives

-- the events of lives, whose nodes have the indices from i on
abbrev pub events_of : ℕ → List Life → List Event
events_of i [] = []
events_of i (life ∷ lives) = puts_at i life.logged ++ (life_events i life.writer (start_of life) life.happenings ++ events_of (i + suc (restarts life.happenings)) lives)

-- a node that holds these edits
abbrev pub holding : List Edit → Node
holding edits = record { store = sum_of edits; took = edits }

-- the last node of each life holds in a world what the node that lasts holds
abbrev pub AreThere : ℕ → List Life → EventWorld → Type 0
AreThere i [] w = Unit {0}
AreThere i (life ∷ lives) w =
    (slice_get w.nodes (i + restarts life.happenings) ≡ Some (holding (held_by life))) × AreThere (i + suc (restarts life.happenings)) lives w

-- an edit was logged at first by one of these, or it was asked for
abbrev pub WasAskedFor : Edit → List Life → Type 0
WasAskedFor e [] = ⊥
WasAskedFor e (life ∷ lives) = (IsAmong e life.logged ⊎ IsAskedFor life.writer e life.happenings) ⊎ WasAskedFor e lives
