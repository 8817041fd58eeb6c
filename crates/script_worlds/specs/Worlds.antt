-- The world that a script builds: its nodes, the events so far, and the named pieces.
-- Source: The events are those of `world_law`; names and writer numbers are this project's own.
use Rattle.std.proofs.Common.{if◌then◌else◌, ◌++◌, ◌+◌, ◌-◌, ◌==◌, ◌∷◌}
use Rattle.script_worlds.specs.Prelude.{[], Ask, Bool, bytes_eq, Content, Cut, Edit, edits_of, EntryMap, Event, Files, Give, high_of, length, List, list_any, map, None, Option, option_map, PlaceParts, position, Profile, Put, slice_get, Some, suc, sum_of, took, unwrap_or, world_of, zero, ℕ}
use Rattle.world_law.specs.Worlds as worlds

-- a node: its name, and its writer number
pub record Member : Type 0 where
  pub name : List ℕ
  pub writer : ℕ

-- the nodes in the order of their creation; the events, the latest first; the pieces by name with their indices, the
-- latest first; and the profile by which questions about units are answered
pub record ScriptWorld : Type 0 where
  pub nodes : List Member
  pub events : List Event
  pub pieces : List (List ℕ × ℕ)
  pub profile : Profile

-- the world without nodes, whose units are as their files say alone
abbrev pub blank : ScriptWorld
blank = record { nodes = []; events = []; pieces = []; profile = Files }

-- the world after the events: what each node took, and every ask and piece ever made
abbrev pub state : ScriptWorld → worlds.EventWorld
state world = world_of (length world.nodes) world.events

-- the world in which one node has put each entry of a store
abbrev pub begun : List ℕ → ℕ → EntryMap → ScriptWorld
begun name writer s = record { nodes = record { name = name; writer = writer } ∷ []; events = map (λ e. Put 0 e) (edits_of s); pieces = []; profile = Files }

-- what a node holds: the sum of what it took
abbrev pub held : ScriptWorld → ℕ → EntryMap
held world k = sum_of (took (state world) k)

-- one more event
abbrev pub happened : ScriptWorld → Event → ScriptWorld
happened world event = record world { events = event ∷ world.events }

-- one more node
abbrev pub with_node : ScriptWorld → List ℕ → ℕ → ScriptWorld
with_node world name writer = record world { nodes = world.nodes ++ record { name = name; writer = writer } ∷ [] }

-- another profile
abbrev pub with_profile : ScriptWorld → Profile → ScriptWorld
with_profile world profile = record world { profile = profile }

-- the index of the node with a name
abbrev pub node_named : List Member → List ℕ → Option ℕ
node_named nodes name = position (λ member. bytes_eq member.name name) nodes

abbrev pub has_writer : List Member → ℕ → Bool
has_writer nodes writer = list_any (λ member. member.writer == writer) nodes

-- the writer number of a node
abbrev pub writer_at : List Member → ℕ → ℕ
writer_at nodes k = unwrap_or (option_map (λ member. member.writer) (slice_get nodes k)) 0

-- a node's next edit: its version is above all that the node holds
abbrev pub next_edit : ScriptWorld → ℕ → PlaceParts → Content → Edit
next_edit world k place content = record { place = place; version = record { counter = high_of (held world k) + 1; writer = writer_at world.nodes k }; content = content }

-- the indices of the next ask and of the next piece
abbrev pub next_ask : ScriptWorld → ℕ
next_ask world = length (state world).asks

abbrev pub next_piece : ScriptWorld → ℕ
next_piece world = length (state world).pieces

-- one node makes an ask, and another cuts a piece for it
abbrev pub answered : ScriptWorld → (from to : ℕ) → Option (List PlaceParts) → ScriptWorld
answered world from to places = happened (happened world (Ask to)) (Cut from (next_ask world) places)

-- the piece that is cut is stored under a name
abbrev pub parted : ScriptWorld → List ℕ → (from to : ℕ) → Option (List PlaceParts) → ScriptWorld
parted world name from to places = record (answered world from to places) { pieces = (name, next_piece world) ∷ world.pieces }

-- the index of the latest piece with a name
abbrev pub piece_named : List (List ℕ × ℕ) → List ℕ → Option ℕ
piece_named [] name = None
piece_named (piece ∷ pieces) name = if bytes_eq piece.0 name then Some piece.1 else piece_named pieces name

-- one node is given everything that it lacks of another
abbrev pub merged : ScriptWorld → (from to : ℕ) → ScriptWorld
merged world from to = happened (answered world from to None) (Give (next_piece world) to)

-- merges one after another, each from one node into another
abbrev pub merged_all : ScriptWorld → List (ℕ × ℕ) → ScriptWorld
merged_all world [] = world
merged_all world (pair ∷ pairs) = merged_all (merged world pair.0 pair.1) pairs

-- consecutive numbers, `count` of them, from `first` on
abbrev pub numbers_from : ℕ → ℕ → List ℕ
numbers_from first zero = []
numbers_from first (suc count) = first ∷ numbers_from (suc first) count

-- every node is merged into the first, and then the first into every node
abbrev pub swept : ScriptWorld → ScriptWorld
swept world =
    let others = numbers_from 1 (length world.nodes - 1) in
    merged_all world (map (λ k. (k, 0)) others ++ map (λ k. (0, k)) others)
