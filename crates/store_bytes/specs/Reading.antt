-- Reading from left to right, with the first fault that is met.
use Rattle.std.specs.Prelude.{ℕ, ◌^◌, ◌==◌, ◌&&◌, ◌||◌, Bool, not, nat_lt, if◌then◌else◌, List, length, Result, Ok, Err}
use Rattle.byte_fields.specs.Reading.{◌>>=◌, byte_at, number_at, short_string_at, long_string_at}
use Rattle.byte_fields.specs.declared.faults.SpellingFault.{SpellingFault}
use Rattle.byte_fields.specs.declared.faults.SpellingFault.TheVariants as fault
use Rattle.join_law.specs.declared.versions.Version.{Version}
use Rattle.load_path.specs.Paths.{PathParts, has_folder, is_component}
use Rattle.load_places.specs.Places.{PlaceParts}
use Rattle.load_places.specs.Hosts.{is_host}
use Rattle.load_places.specs.declared.places.Scope.{Scope}
use Rattle.load_places.specs.declared.places.Scope.TheVariants.{Fleet, Host}
use Rattle.edit_sums.specs.declared.contents.Content.{Content}
use Rattle.edit_sums.specs.declared.contents.Content.TheVariants.{Gone, Link, File}
use Rattle.edit_sums.specs.Entries.{Entry}
use Rattle.edit_sums.specs.Limits.{is_target, is_file}

-- the scope of a host's name, none for the fleet
abbrev pub scope_from : List ℕ × List ℕ → Result (Scope × List ℕ) SpellingFault
scope_from host =
    if length host.0 == 0 then Ok (Fleet, host.1) else if is_host host.0 then Ok (Host host.0, host.1) else Err fault.Host

unfoldable pub scope_at : List ℕ → Result (Scope × List ℕ) SpellingFault
scope_at bytes = short_string_at bytes >>= scope_from

-- whether these are the parts of a path
abbrev pub is_path : PathParts → Bool
is_path p = nat_lt p.rank 4 && (not (has_folder p) || is_component p.folder) && is_component p.name

-- a folder and a name
unfoldable pub components_at : List ℕ → Result ((List ℕ × List ℕ) × List ℕ) SpellingFault
components_at bytes = do
  folder ← short_string_at bytes
  name ← short_string_at folder.1
  Ok ((folder.0, name.0), name.1)

unfoldable pub parts_at : List ℕ → Result (PathParts × List ℕ) SpellingFault
parts_at bytes = do
  rank ← byte_at bytes
  components ← components_at rank.1
  Ok (record { rank = rank.0; folder = components.0.0; name = components.0.1 }, components.1)

unfoldable pub path_at : List ℕ → Result (PathParts × List ℕ) SpellingFault
path_at bytes = parts_at bytes >>= λ path. if is_path path.0 then Ok path else Err fault.Path

unfoldable pub place_at : List ℕ → Result (PlaceParts × List ℕ) SpellingFault
place_at bytes = do
  scope ← scope_at bytes
  path ← path_at scope.1
  Ok (record { scope = scope.0; path = path.0 }, path.1)

unfoldable pub numbers_at : List ℕ → Result (Version × List ℕ) SpellingFault
numbers_at bytes = do
  counter ← number_at bytes
  writer ← number_at counter.1
  Ok (record { counter = counter.0; writer = writer.0 }, writer.1)

unfoldable pub version_at : List ℕ → Result (Version × List ℕ) SpellingFault
version_at bytes = numbers_at bytes >>= λ version. if nat_lt version.0.writer (2 ^ 32) then Ok version else Err fault.Number

unfoldable pub target_at : List ℕ → Result (List ℕ × List ℕ) SpellingFault
target_at bytes = long_string_at bytes >>= λ target. if is_target target.0 then Ok target else Err fault.Content

unfoldable pub text_at : List ℕ → Result (List ℕ × List ℕ) SpellingFault
text_at bytes = long_string_at bytes >>= λ file. if is_file file.0 then Ok file else Err fault.Content

abbrev pub link_from : List ℕ × List ℕ → Result (Content × List ℕ) SpellingFault
link_from target = Ok (Link target.0, target.1)

abbrev pub file_from : List ℕ × List ℕ → Result (Content × List ℕ) SpellingFault
file_from file = Ok (File file.0, file.1)

abbrev pub link_at : List ℕ → Result (Content × List ℕ) SpellingFault
link_at bytes = target_at bytes >>= link_from

abbrev pub file_at : List ℕ → Result (Content × List ℕ) SpellingFault
file_at bytes = text_at bytes >>= file_from

-- a content of this sort
abbrev pub content_from : ℕ × List ℕ → Result (Content × List ℕ) SpellingFault
content_from sort =
    if sort.0 == 0 then Ok (Gone, sort.1) else if sort.0 == 1 then link_at sort.1 else if sort.0 == 2 then file_at sort.1 else Err fault.Content

unfoldable pub content_at : List ℕ → Result (Content × List ℕ) SpellingFault
content_at bytes = byte_at bytes >>= content_from

unfoldable pub entry_at : List ℕ → Result (Entry × List ℕ) SpellingFault
entry_at bytes = do
  version ← version_at bytes
  content ← content_at version.1
  Ok (record { version = version.0; content = content.0 }, content.1)
