-- How the shell represents a world: the current replica of each node; by name the indices of nodes and the current
-- pieces; the writer numbers in use; and the profile. And what is kept of its first node.
-- Source: this project's own.
use Rattle.std.proofs.Common.{◌≡◌, ◌⊎◌}
use Rattle.fleet_script.specs.Prelude.{[], Bool, Command, cut, digest_of, EntryMap, false, Fault, Global, held, IsPlaceFault, IsSaid, is_used, IsValid, join, length, List, Memory, merged_all, nat_cmp, node_named, None, Ok, Option, Outcome, piece_named, place_of, PlaceParts, Profile, Refused, Replicated, Result, ScriptWorld, slice_cmp, slice_get, slice_index_or, slice_set, Some, state, UnknownNode, Vec, writer_at, ℕ}
use Rattle.fleet_script.specs.{declared.states.Shell.{Shell}, Does.{Does}}
use Rattle.std.specs.BTreeMap as maps
use Rattle.std.specs.BTreeSet as sets
use Rattle.world_law.specs.Worlds as worlds
use Rattle.profiles.specs.declared.profiles.Profile.TheVariants as profiles
use Rattle.script_homes.specs.Homes.{IsHeldNext}

pub record Keeps : Type 0 where
  pub nodes : List Replicated
  pub number_of : List ℕ → Option ℕ
  pub is_taken : ℕ → Bool
  pub piece_of : List ℕ → Option EntryMap
  pub profile : Profile

abbrev pub kept_in : Shell → Keeps
kept_in shell = record {
  nodes = shell.nodes.items;
  number_of = λ name. maps.get (slice_cmp nat_cmp) shell.numbers name;
  is_taken = λ writer. sets.contains nat_cmp shell.writers writer;
  piece_of = λ name. maps.get (slice_cmp nat_cmp) shell.pieces name;
  profile = shell.profile;
}

-- the shell is empty, and loads units as their files say alone
pub record IsBlank (shell : Keeps) : Type 0 where
  pub nodes : shell.nodes ≡ []
  pub numbers : (name : List ℕ) → shell.number_of name ≡ None
  pub writers : (writer : ℕ) → shell.is_taken writer ≡ false
  pub pieces : (name : List ℕ) → shell.piece_of name ≡ None
  pub profile : shell.profile ≡ profiles.Files

-- these are the entries of the piece with this index
pub record IsPiece (world : ScriptWorld) (number : ℕ) (entries : EntryMap) : Type 0 where
  pub piece : worlds.Piece
  pub there : slice_get (state world).pieces number ≡ Some piece
  pub entries_are : piece.entries ≡ entries

-- the shell has the latest piece of a name
abbrev pub IsNamed : ScriptWorld → Option EntryMap → Option ℕ → Type 0
IsNamed world None None = Unit {0}
IsNamed world None (Some number) = ⊥
IsNamed world (Some entries) None = ⊥
IsNamed world (Some entries) (Some number) = IsPiece world number entries

-- the nodes are those of the world, each holds the sum of what it took under its own writer number, and names, writer
-- numbers, pieces and the profile are those of the world
pub record Holds (shell : Keeps) (world : ScriptWorld) : Type 0 where
  pub count : length shell.nodes ≡ length world.nodes
  pub writers : (k : ℕ) (node : Replicated) → slice_get shell.nodes k ≡ Some node → writer_at world.nodes k ≡ node.writer
  pub stores : (k : ℕ) (node : Replicated) → slice_get shell.nodes k ≡ Some node → node.store ≡ held world k
  pub numbers : (name : List ℕ) → shell.number_of name ≡ node_named world.nodes name
  pub taken : (writer : ℕ) → shell.is_taken writer ≡ is_used world writer
  pub pieces : (name : List ℕ) → IsNamed world (shell.piece_of name) (piece_named world.pieces name)
  pub profile : shell.profile ≡ world.profile
  pub valid : IsValid world

-- Whatever world the old shell represents, the new one represents one to which it may go.
abbrev pub Continues : Keeps → Keeps → (ScriptWorld → ScriptWorld → Type 0) → Type 0
Continues old new step = (world : ScriptWorld) → Holds old world → (next : ScriptWorld) × Holds new next × step world next

-- merges one after another, each from one node into another
abbrev pub AreMerged : Keeps → Keeps → List (ℕ × ℕ) → Type 0
AreMerged old new pairs = Continues old new (λ before after. after ≡ merged_all before pairs)

-- into the first node, and out of it
abbrev pub into_first : ℕ → ℕ × ℕ
into_first k = (k, 0)

abbrev pub out_of_first : ℕ → ℕ × ℕ
out_of_first k = (0, k)

-- the result of a step, unless memory ran out: it is possible from every world that the old shell represents
abbrev pub Goes : Keeps → Keeps → (ScriptWorld → Outcome → ScriptWorld → Type 0) → Result (Vec ℕ Global) Fault → Type 0
Goes old new step result = IsSaid (λ (text : Vec ℕ Global). text.items) result (λ outcome. Continues old new (λ before after. step before outcome after))

-- the result of a command
abbrev pub Executes : Shell → Shell → Command → Result (Vec ℕ Global) Fault → Type 0
Executes old new command result = Goes (kept_in old) (kept_in new) (λ before outcome after. Does before command outcome after) result

-- this is the replica of the node with this name
pub record IsNodeNamed (shell : Keeps) (name : List ℕ) (replica : Replicated) : Type 0 where
  pub number : ℕ
  pub named : shell.number_of name ≡ Some number
  pub there : slice_get shell.nodes number ≡ Some replica

-- why no node with a name was found: there is none, or memory ran out
abbrev pub HasNoNode : Keeps → List ℕ → Fault → Type 0
HasNoNode shell name fault = (fault ≡ Memory) ⊎ ((fault ≡ Refused UnknownNode) × (shell.number_of name ≡ None))

-- this is the index of the node with a name, and the place that a text writes
pub record IsSite (shell : Keeps) (name text : List ℕ) (at : ℕ) (place : PlaceParts) : Type 0 where
  pub named : shell.number_of name ≡ Some at
  pub written : place_of text ≡ Ok place

-- why no such place was found: there is no node with the name, the text writes no place, or memory ran out
abbrev pub HasNoSite : Keeps → List ℕ → List ℕ → Fault → Type 0
HasNoSite shell name text fault = HasNoNode shell name fault ⊎ ((at : ℕ) × (shell.number_of name ≡ Some at) × IsPlaceFault (place_of text) fault)

-- a node, with the answer of another to its ask joined into its store
abbrev pub given_of : Replicated → Replicated → Replicated
given_of node other = record node { store = join node.store (cut other.store (digest_of node.store) None) }

-- one node's answer to another is joined into that one, and all else stays as it was
abbrev pub IsGivenAt : Keeps → ℕ → ℕ → Keeps → Type 0
IsGivenAt old from to new = (d : Replicated) → new ≡ record old { nodes = slice_set old.nodes to (given_of (slice_index_or old.nodes to d) (slice_index_or old.nodes from d)) }

-- what the first node holds is held now, in whatever world the shell represents
abbrev pub FirstIsHeld : Keeps → (EntryMap → Type 0) → (EntryMap → Type 0) → Type 0
FirstIsHeld shell before after = (world : ScriptWorld) → Holds shell world → IsHeldNext (held world 0) before after
