-- What each command does: which outcome it may have in a world, and which world it leaves.
-- Source: this project's own.
use Rattle.std.proofs.Common.{◌==◌, ◌∷◌, ◌≡◌, ◌≢◌, ◌⊎◌}
use Rattle.fleet_script.specs.Prelude.{[], BadLink, BadText, changed_line, changed_places, codes, Command, Component, Content, cut, Depth, digest_of, Directory, entries_line, EntryMap, Err, File, files_text, FileTooLarge, Gone, happened, held, high_of, HostName, is_file, is_target, IsBadText, is_used, IsWorkerCount, length, LineRefusal, Link, List, MatchBool, MatchOption, MatchResult, merged, next_edit, node_named, NodeTaken, None, Nothing, Ok, ok_line, Option, Outcome, parted, piece_named, place_of, PlaceFault, PlaceParts, places_of, Profile, RendersCrowd, RendersFiles, RendersInquiry, RendersText, ScriptWorld, Some, Spells, swept, UnknownNode, UnknownPiece, VersionsSpent, visible_at, with_node, with_profile, Workers, WriterTaken, ℕ}
use Rattle.std.specs.FinMap as finmap
use Rattle.load_places.specs.declared.places.PlaceFault.TheVariants as place
use Rattle.world_law.specs.declared.events.Event.TheVariants as event
use Rattle.script_commands.specs.declared.commands.Command.TheVariants as command

-- the answer is these words, and this is the new world
pub record Gives (words : List ℕ) (world : ScriptWorld) (outcome : Outcome) (new : ScriptWorld) : Type 0 where
  pub outcome_is : outcome ≡ Ok words
  pub world_is : new ≡ world

-- it is refused, and the world stays as it was
pub record Refuses (old : ScriptWorld) (refusal : LineRefusal) (outcome : Outcome) (new : ScriptWorld) : Type 0 where
  pub outcome_is : outcome ≡ Err refusal
  pub world_is : new ≡ old

-- the outcome is one of these, and the world stays as it was
pub record IsRead (Renders : Outcome → Type 0) (old : ScriptWorld) (outcome : Outcome) (new : ScriptWorld) : Type 0 where
  pub rendered : Renders outcome
  pub world_is : new ≡ old

-- the answer lists all that a store holds
abbrev pub RendersPlaces : EntryMap → Outcome → Type 0
RendersPlaces s outcome = outcome ≡ Ok (files_text s)

-- these places, or all if none are given
abbrev pub if_any : List PlaceParts → Option (List PlaceParts)
if_any [] = None
if_any (place ∷ places) = Some (place ∷ places)

module _ (old : ScriptWorld) (outcome : Outcome) (new : ScriptWorld) where
  -- what holds of the node with a name, if there is one
  abbrev pub AtNode : List ℕ → (ℕ → Type 0) → Type 0
  AtNode name P = MatchOption (node_named old.nodes name) (Refuses old UnknownNode outcome new) P

  -- a text that writes no place is refused for the first thing wrong with it
  abbrev pub RefusesPlace : PlaceFault → Type 0
  RefusesPlace place.HostName = Refuses old HostName outcome new
  RefusesPlace place.Directory = Refuses old Directory outcome new
  RefusesPlace place.Depth = Refuses old Depth outcome new
  RefusesPlace place.Component = Refuses old Component outcome new
  RefusesPlace place.Memory = ⊥

  -- what holds of the index of the piece with a name, if there is one
  abbrev pub AtPiece : List ℕ → (ℕ → Type 0) → Type 0
  AtPiece name P = MatchOption (piece_named old.pieces name) (Refuses old UnknownPiece outcome new) P

  -- what holds of the place that a text writes, if it writes one
  abbrev pub AtPlace : List ℕ → (PlaceParts → Type 0) → Type 0
  AtPlace text P = MatchResult (place_of text) P RefusesPlace

  -- what holds of the places that some texts write, if each writes one
  abbrev pub AtPlaces : List (List ℕ) → (List PlaceParts → Type 0) → Type 0
  AtPlaces texts P = MatchResult (places_of texts) P RefusesPlace

  -- what holds of the bytes that a text spells, if it spells some
  abbrev pub WithText : List ℕ → (List ℕ → Type 0) → Type 0
  WithText text P = ((bytes : List ℕ) × Spells text bytes × P bytes) ⊎ (IsBadText text × Refuses old BadText outcome new)

  -- what holds of the file of these bytes, if they aren't too many
  abbrev pub WithFile : List ℕ → (Content → Type 0) → Type 0
  WithFile bytes P = MatchBool (is_file bytes) (P (File bytes)) (Refuses old FileTooLarge outcome new)

  -- what holds of the link to this target, if it may be one
  abbrev pub WithTarget : List ℕ → (Content → Type 0) → Type 0
  WithTarget target P = MatchBool (is_target target) (P (Link target)) (Refuses old BadLink outcome new)

  -- the node puts its next edit, unless the greatest counter is held already
  abbrev pub Writes : ℕ → PlaceParts → Content → Type 0
  Writes k place content =
      let edit = next_edit old k place content in
      MatchBool (high_of (held old k) == 18446744073709551615) (Refuses old VersionsSpent outcome new) (Gives (ok_line edit.version) (happened old (event.Put k edit)) outcome new)

  -- a new node; no two nodes have one name, and no node has a writer number that a node or an edit has
  abbrev pub Names : List ℕ → ℕ → Type 0
  Names name writer =
      MatchOption (node_named old.nodes name)
      (MatchBool (is_used old writer) (Refuses old WriterTaken outcome new) (Gives (codes "ok\n") (with_node old name writer) outcome new))
      (λ k. Refuses old NodeTaken outcome new)

  -- a file is put at a place
  abbrev pub Puts : List ℕ → List ℕ → List ℕ → Type 0
  Puts node place text = AtNode node (λ k. AtPlace place (λ at. WithText text (λ bytes. WithFile bytes (Writes k at))))

  -- a link is put at a place
  abbrev pub Links : List ℕ → List ℕ → List ℕ → Type 0
  Links node place target = AtNode node (λ k. AtPlace place (λ at. WithTarget target (Writes k at)))

  -- what is visible at a place of the node with an index is removed
  abbrev pub RemovesAt : ℕ → PlaceParts → Type 0
  RemovesAt k at = MatchOption (visible_at (held old k) at) (Refuses old Nothing outcome new) (λ shown. Writes k at Gone)

  abbrev pub Removes : List ℕ → List ℕ → Type 0
  Removes node place = AtNode node (λ k. AtPlace place (RemovesAt k))

  -- the first node is given all that it lacks of the second; the places that this changes are counted
  abbrev pub MergesInto : ℕ → ℕ → Type 0
  MergesInto j k = let next = merged old j k in Gives (changed_line (changed_places (held old k) (held next k))) next outcome new

  abbrev pub Merges : List ℕ → List ℕ → Type 0
  Merges from to = AtNode from (λ j. AtNode to (λ k. MergesInto j k))

  -- the first node cuts for the ask of the second, at these places or at all; the piece is stored under a name, and its
  -- entries are counted
  abbrev pub PartsAt : List ℕ → ℕ → ℕ → List PlaceParts → Type 0
  PartsAt piece j k places =
      let entries = cut (held old j) (digest_of (held old k)) (if_any places) in
      Gives (entries_line (length (finmap.entries entries))) (parted old piece j k (if_any places)) outcome new

  abbrev pub Parts : List ℕ → List ℕ → List ℕ → List (List ℕ) → Type 0
  Parts piece from to texts = AtNode from (λ j. AtNode to (λ k. AtPlaces texts (λ places. PartsAt piece j k places)))

  -- the piece with an index is given to the node with an index; the places that this changes are counted
  abbrev pub SendsTo : ℕ → ℕ → Type 0
  SendsTo p k = let next = happened old (event.Give p k) in Gives (changed_line (changed_places (held old k) (held next k))) next outcome new

  abbrev pub Sends : List ℕ → List ℕ → Type 0
  Sends piece node = AtPiece piece (λ p. AtNode node (SendsTo p))

  -- every node is merged into the first, and then the first into every node
  abbrev pub Sweeps : Type 0
  Sweeps = Gives (codes "ok\n") (swept old) outcome new

  -- a command that only reads a node: its outcome is a possible one for the node's store, and the world stays as it was
  abbrev pub Reads : List ℕ → (EntryMap → Outcome → Type 0) → Type 0
  Reads node Renders = AtNode node (λ k. IsRead (Renders (held old k)) old outcome new)

  -- two nodes hold the same, or they differ
  abbrev pub Compares : List ℕ → List ℕ → Type 0
  Compares left right = AtNode left (λ j. AtNode right (λ k.
      ((held old j ≡ held old k) × Gives (codes "same\n") old outcome new) ⊎ ((held old j ≢ held old k) × Gives (codes "differ\n") old outcome new)))

  -- from now on this many workers load; their number changes no answer
  abbrev pub WorkerCounts : ℕ → Type 0
  WorkerCounts count = (IsWorkerCount count × Gives (codes "ok\n") old outcome new) ⊎ (¬ IsWorkerCount count × Refuses old Workers outcome new)

  -- from now on questions about units are answered by this profile
  abbrev pub SetsProfile : Profile → Type 0
  SetsProfile profile = Gives (codes "ok\n") (with_profile old profile) outcome new

-- From the old world a command may have this outcome, and leave the new world.
abbrev pub Does : ScriptWorld → Command → Outcome → ScriptWorld → Type 0
Does old (command.Node name writer) outcome new = Names old outcome new name writer
Does old (command.Put node place text) outcome new = Puts old outcome new node place text
Does old (command.Link node place target) outcome new = Links old outcome new node place target
Does old (command.Remove node place) outcome new = Removes old outcome new node place
Does old (command.Merge from to) outcome new = Merges old outcome new from to
Does old (command.Part piece from to places) outcome new = Parts old outcome new piece from to places
Does old (command.Send piece node) outcome new = Sends old outcome new piece node
Does old command.Sweep outcome new = Sweeps old outcome new
Does old (command.Files node) outcome new = Reads old outcome new node RendersPlaces
Does old (command.Text node place) outcome new = Reads old outcome new node (RendersText place)
Does old (command.Cat node host unit) outcome new = Reads old outcome new node (RendersFiles host unit)
Does old (command.Ask node host inquiry) outcome new = Reads old outcome new node (RendersInquiry old.profile host inquiry)
Does old (command.Workers count) outcome new = WorkerCounts old outcome new count
Does old (command.Profile profile) outcome new = SetsProfile old outcome new profile
Does old (command.Same left right) outcome new = Compares old outcome new left right
Does old (command.Crowd node seats edits) outcome new = Reads old outcome new node (RendersCrowd seats edits)
