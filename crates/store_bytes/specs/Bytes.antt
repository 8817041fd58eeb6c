-- The bytes of stores, pieces and digests.
-- Source: this project's own; the checksum is SHA-256 of FIPS 180-4.
use Rattle.std.specs.Prelude.{◌≡◌, ℕ, List, Result, Ok}
use Rattle.std.specs.FinMap as finmap
use Rattle.sha2.specs.Sha256.{sha256}
use Rattle.byte_fields.specs.Laws.{IsBytes}
use Rattle.byte_fields.specs.Reading.{◌>>=◌}
use Rattle.byte_fields.specs.declared.faults.SpellingFault.{SpellingFault}
use Rattle.join_law.specs.declared.versions.Version.{Version}
use Rattle.load_path.specs.Paths.{path_cmp}
use Rattle.load_places.specs.Places.{place_cmp, PlaceParts, scope_cmp}
use Rattle.edit_sums.specs.Entries.{Entry}
use Rattle.edit_sums.specs.Sums.{EntryMap}
use Rattle.world_law.specs.Cuts.{VersionMap}
use Rattle.store_bytes.specs.ListReading.{all_of, group_at}
use Rattle.store_bytes.specs.ListSpelling.{ArePairs, covered, pairs, spelling}
use Rattle.store_bytes.specs.Parts.{parted}
use Rattle.store_bytes.specs.Reading.{entry_at, path_at, place_at, scope_at, version_at}
use Rattle.store_bytes.specs.Spelling.{entry, IsPlace, IsVersion, path, place, scope, version}
use Rattle.store_bytes.specs.Stores.{AreScoped, flattened, Scoped}

-- ---- what is written

-- what a store holds, by scope and path
abbrev pub scopes_of : EntryMap → List Scoped
scopes_of s = parted (finmap.entries s)

-- each entry has a spelling, as those of every store in memory do
abbrev pub HasSpelling : EntryMap → Type 0
HasSpelling s = AreScoped (scopes_of s)

-- the bytes of a store, as this kind of value
abbrev pub spelling_of : ℕ → EntryMap → List ℕ
spelling_of kind s = spelling scope (pairs path entry) kind (scopes_of s)

-- the bytes that end the spelling of a store
abbrev pub id_of : EntryMap → List ℕ
id_of s = sha256 (covered scope (pairs path entry) 1 (scopes_of s))

-- each version of a digest has a spelling, as those of every digest in memory do
abbrev pub HasVersionSpelling : VersionMap → Type 0
HasVersionSpelling d = ArePairs place_cmp IsPlace IsVersion (finmap.entries d)

-- the bytes of a digest
abbrev pub digest_spelling : VersionMap → List ℕ
digest_spelling d = spelling place version 3 (finmap.entries d)

-- ---- what is read

-- the entries that bytes of this kind spell, or the first fault
unfoldable pub entries_in : ℕ → List ℕ → Result (List (PlaceParts × Entry)) SpellingFault
entries_in kind bytes = all_of scope_cmp scope_at (group_at path_cmp path_at entry_at) kind bytes >>= λ scopes. Ok (flattened scopes)

-- the versions that the bytes of a digest spell, or the first fault
unfoldable pub versions_in : List ℕ → Result (List (PlaceParts × Version)) SpellingFault
versions_in bytes = all_of place_cmp place_at version_at 3 bytes

-- ---- the laws

-- Each value has one spelling, and each spelling one value.
pub record AreOneToOne : Type 0 where
  -- stores and pieces with the same bytes are the same
  pub same_entries : (kind : ℕ) (s t : EntryMap) → HasSpelling s → HasSpelling t → spelling_of kind s ≡ spelling_of kind t → s ≡ t
  -- digests with the same bytes are the same
  pub same_versions : (d e : VersionMap) → HasVersionSpelling d → HasVersionSpelling e → digest_spelling d ≡ digest_spelling e → d ≡ e
  -- no two byte strings are read alike
  pub one_spelling : (kind : ℕ) (b c : List ℕ) (entries : List (PlaceParts × Entry)) → IsBytes b → IsBytes c
      → entries_in kind b ≡ Ok entries → entries_in kind c ≡ Ok entries → b ≡ c
  pub one_version_spelling : (b c : List ℕ) (versions : List (PlaceParts × Version)) → IsBytes b → IsBytes c
      → versions_in b ≡ Ok versions → versions_in c ≡ Ok versions → b ≡ c
