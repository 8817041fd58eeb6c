-- The files of a unit, and how they are written.
-- Source: as `systemctl cat` shows a unit (systemctl(1)); the texts of refusals are this project's own.
use Rattle.std.proofs.Common.{◌++◌, ◌↔◌, ◌∷◌, ◌≡◌}
use Rattle.script_answers.specs.Prelude.{[], AreNames, Bad, BadByte, Choice, codes, Contains, Content, content_at, EmptyPrefix, Entry, entry_place, EntryMap, Err, File, file_name, flat_map, Gone, host_view_of, HostViewMap, IsDropInAt, IsStrictlySortedBy, Kind, Length, Link, List, map, Masked, MatchResult, Name, name_cmp, name_of, NameFault, None, NotFound, Ok, Option, Outcome, PathParts, PlaceParts, resolution, shown, Some, ℕ}
use Rattle.script_answers.specs.Hosts.{by_files, ForHost}
use Rattle.place_texts.specs.PlaceTexts.{file_lines}
use Rattle.unit_name.specs.declared.names.NameFault.TheVariants as name
use Rattle.fragment_choice.specs.declared.choices.Choice.TheVariants as choice

-- the bytes of a content that is a file
abbrev pub file_bytes : Option Content → List ℕ
file_bytes None = []
file_bytes (Some Gone) = []
file_bytes (Some (Link target)) = []
file_bytes (Some (File bytes)) = bytes

-- the files that are visible at some places, one after another
abbrev pub cat_text : HostViewMap → List PlaceParts → List ℕ
cat_text s places = flat_map (λ place. file_lines place (file_bytes (content_at s place))) places ++ codes "end\n"

-- a file that isn't empty
abbrev pub IsFile : Option Content → Type 0
IsFile o = (b : ℕ) × (bs : List ℕ) × (o ≡ Some (File (b ∷ bs)))

-- such a file is visible at the place
abbrev pub IsFileAt : HostViewMap → PlaceParts → Type 0
IsFileAt s p = IsFile (content_at s p)

-- each of these entries is such a file
abbrev pub AreFiles : List (PathParts × Entry) → Type 0
AreFiles ps = (p : PathParts × Entry) → Contains ps p → IsFile (shown p.1)

-- the text of an entry that is a file
abbrev pub entry_lines : HostViewMap → PathParts × Entry → List ℕ
entry_lines s p = file_lines (entry_place s p) (file_bytes (shown p.1))

-- the text of the file that is visible at a place, and then of the files of some entries
abbrev pub borrowed_text : HostViewMap → PlaceParts → List (PathParts × Entry) → List ℕ
borrowed_text s fragment ps = (file_lines fragment (file_bytes (content_at s fragment)) ++ flat_map (entry_lines s) ps) ++ codes "end\n"

-- the text has the files of the unit of this main name: its fragment, and then the drop-ins of all its names, by file
-- name
pub record IsCat (s : HostViewMap) (main : Name) (fragment : PlaceParts) (text : List ℕ) : Type 0 where
  pub names : List Name
  pub names_are : AreNames s main names
  pub dropins : List PlaceParts
  pub ascending : IsStrictlySortedBy name_cmp (map file_name dropins)
  pub exact : (p : PlaceParts) → Contains dropins p ↔ IsDropInAt s names p
  pub text_is : text ≡ cat_text s (fragment ∷ dropins)

-- a word that is no unit name is refused for the first thing wrong with it
abbrev pub RefusesName : NameFault → Outcome → Type 0
RefusesName name.Length outcome = outcome ≡ Err Length
RefusesName name.Kind outcome = outcome ≡ Err Kind
RefusesName name.EmptyPrefix outcome = outcome ≡ Err EmptyPrefix
RefusesName (name.BadByte place) outcome = outcome ≡ Err (BadByte place)
RefusesName name.Memory outcome = ⊥

-- the files of a unit are written; a unit without a fragment is refused for its status
abbrev pub RendersChoice : HostViewMap → Name → Choice → Outcome → Type 0
RendersChoice s main choice.NotFound outcome = outcome ≡ Err (NotFound main)
RendersChoice s main choice.Masked outcome = outcome ≡ Err (Masked main)
RendersChoice s main (choice.Fragment place) outcome = (text : List ℕ) × IsCat s main place text × (outcome ≡ Ok text)
RendersChoice s main (choice.Alias other) outcome = ⊥
RendersChoice s main (choice.Bad cause) outcome = outcome ≡ Err (Bad main)

-- the files of the unit that a word resolves to, as the host sees them, or why there are none
abbrev pub RendersFilesOf : List ℕ → HostViewMap → Outcome → Type 0
RendersFilesOf word s outcome = MatchResult (name_of word) (λ n. RendersChoice s (resolution s n).main (resolution s n).choice outcome) (λ fault. RefusesName fault outcome)

-- the same in a store, for the host that is named
abbrev pub RendersFiles : Option (List ℕ) → List ℕ → EntryMap → Outcome → Type 0
RendersFiles asked word = ForHost asked (λ host s. RendersFilesOf word (host_view_of s (by_files host)))
