-- Commands that only read one node have one outcome for all nodes that took the same edits.
-- Source (strong eventual consistency): Shapiro, Preguica, Baquero, Zawirski 2011.
use Rattle.std.proofs.Common.{◌↔◌, ◌≡◌}
use Rattle.fleet_script.specs.{Does.{Does}, Prelude.{AreSameEdits, blank, Command, EntryMap, IsAboveEdits, IsStoreBelow, List, node_named, Outcome, ScriptWorld, slice_get, Some, state, took, ℕ}, Scripts.{Run}}
use Rattle.world_law.specs.Worlds as worlds
use Rattle.script_commands.specs.declared.commands.Command.TheVariants as command

-- the command reads one node and changes nothing
abbrev pub IsReading : Command → Type 0
IsReading (command.Files node) = Unit {0}
IsReading (command.Text node place) = Unit {0}
IsReading (command.Cat node host unit) = Unit {0}
IsReading (command.Ask node host inquiry) = Unit {0}
IsReading (command.Crowd node seats edits) = Unit {0}
IsReading other = ⊥

-- the same command for the node with this name
abbrev pub of_node : List ℕ → Command → Command
of_node name (command.Files node) = command.Files name
of_node name (command.Text node place) = command.Text name place
of_node name (command.Cat node host unit) = command.Cat name host unit
of_node name (command.Ask node host inquiry) = command.Ask name host inquiry
of_node name (command.Crowd node seats edits) = command.Crowd name seats edits
of_node name other = other

-- a command that asks about units is answered by one profile in both worlds
abbrev pub IsAskedByOneProfile : Command → ScriptWorld → ScriptWorld → Type 0
IsAskedByOneProfile (command.Ask node host inquiry) world other_world = world.profile ≡ other_world.profile
IsAskedByOneProfile other world other_world = Unit {0}

-- If two nodes took the same edits, each at any moment of any script, a command that only reads has one outcome for
-- both, if it is asked by one profile where it is about units.
abbrev pub SameEditsSameOutcomes : Type 0
SameEditsSameOutcomes = (world other : ScriptWorld) (left right : List ℕ) (j k : ℕ) → node_named world.nodes left ≡ Some j → node_named other.nodes right ≡ Some k
    → AreSameEdits (took (state world) j) (took (state other) k) → (command : Command) → IsReading command
    → IsAskedByOneProfile command world other
    → (a b : Outcome) (x y : ScriptWorld) → Does world (of_node left command) a x → Does other (of_node right command) b y → a ≡ b

-- If these moments come after some lines of scripts, both nodes hold the same store.
abbrev pub SameEditsSameStores : Type 0
SameEditsSameStores = (lines others : List (List ℕ)) (written rendered : List ℕ) (world other : ScriptWorld) → Run blank lines written world → Run blank others rendered other
    → (j k : ℕ) (left right : worlds.Node) → slice_get (state world).nodes j ≡ Some left → slice_get (state other).nodes k ≡ Some right
    → AreSameEdits (took (state world) j) (took (state other) k) → left.store ≡ right.store

-- A node's store is the least store above the edits that it took.
abbrev pub StoresAreLeast : Type 0
StoresAreLeast = (lines : List (List ℕ)) (written : List ℕ) (world : ScriptWorld) → Run blank lines written world
    → (k : ℕ) (node : worlds.Node) → slice_get (state world).nodes k ≡ Some node → (s : EntryMap)
    → IsStoreBelow node.store s ↔ IsAboveEdits (took (state world) k) s
