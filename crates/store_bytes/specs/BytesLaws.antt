-- Each value has one spelling, and each spelling one value.
use Rattle.std.proofs.Common.{◌≡◌, ◌<◌, ◌^◌, ℕ, List, length, map, IsTrue, Result, Ok, sym, ap, subst, ◌∙◌}
use Rattle.std.specs.FinMap.{is_sorted}
use Rattle.std.specs.FinMap as finmap
use Rattle.std.specs.List.{AllByRecursion}
use Rattle.list_laws.specs.Truths.{from_T, to_T}
use Rattle.byte_fields.specs.FieldLaws.{bind_ok, ok_is}
use Rattle.byte_fields.specs.Laws.{IsBytes}
use Rattle.byte_fields.specs.Reading.{◌>>=◌}
use Rattle.byte_fields.specs.declared.faults.SpellingFault.{SpellingFault}
use Rattle.join_law.specs.declared.versions.Version.{Version}
use Rattle.load_path.specs.Paths.{IsPath, path_cmp}
use Rattle.load_path.specs.PathLaws.{path_cmp_total}
use Rattle.load_places.specs.Places.{place_cmp, PlaceParts, scope_cmp}
use Rattle.load_places.specs.PlaceLaws.{place_cmp_total, scope_cmp_total}
use Rattle.load_places.specs.Texts.{IsScope}
use Rattle.edit_sums.specs.Entries.{Entry}
use Rattle.edit_sums.specs.Sums.{edit_of, EntryMap, sum_of}
use Rattle.edit_sums.specs.SumLaws.{sum_of-edits_of}
use Rattle.world_law.specs.Cuts.{VersionMap}
use Rattle.store_bytes.specs.Bytes.{AreOneToOne, digest_spelling, entries_in, HasSpelling, HasVersionSpelling, spelling_of, versions_in}
use Rattle.store_bytes.specs.ListReading.{all_of, group_at}
use Rattle.store_bytes.specs.ListSpelling.{AreGroup, ArePairs, pairs, spelling}
use Rattle.store_bytes.specs.PartingLaws.{flattened-parted, parted-flattened}
use Rattle.store_bytes.specs.PartLaws.{entry_field, path_field, place_field, scope_field, version_field}
use Rattle.store_bytes.specs.Parts.{parted}
use Rattle.store_bytes.specs.Reading.{entry_at, path_at, place_at, scope_at, version_at}
use Rattle.store_bytes.specs.Spelling.{entry, IsEntry, IsPlace, IsVersion, path, place, scope, version}
use Rattle.store_bytes.specs.StoreLaws.{flattened_sorted}
use Rattle.store_bytes.specs.Stores.{AreScoped, flattened, Scoped}
use Rattle.store_bytes.specs.WholeLaws.{all_again, all_takes, group_field}
use Rattle.byte_fields.specs.Composing.{IsField}

-- ---- stores and pieces

pub entry_group : IsField (group_at path_cmp path_at entry_at) (pairs path entry) (AreGroup path_cmp IsPath IsEntry)
entry_group = group_field path_cmp path_cmp_total path_at path IsPath entry_at entry IsEntry path_field entry_field

-- what was read from bytes, and what they are
pub record AreEntriesOf (kind : ℕ) (bytes : List ℕ) (es : List (PlaceParts × Entry)) : Type 0 where
  pub scoped : AreScoped (parted es)
  pub ascending : IsTrue (is_sorted place_cmp es)
  pub spelled : bytes ≡ spelling scope (pairs path entry) kind (parted es)

abbrev joined : List Scoped → Result (List (PlaceParts × Entry)) SpellingFault
joined scopes = Ok (flattened scopes)

pub entries_taken : (kind : ℕ) (bytes : List ℕ) (es : List (PlaceParts × Entry)) → IsBytes bytes
    → entries_in kind bytes ≡ Ok es → AreEntriesOf kind bytes es
unfolding entries_in
entries_taken kind bytes es fits e =
    let a = bind_ok (all_of scope_cmp scope_at (group_at path_cmp path_at entry_at) kind bytes) joined es e in
    let t = all_takes scope_cmp scope_cmp_total scope_at scope IsScope (group_at path_cmp path_at entry_at) (pairs path entry) (AreGroup path_cmp IsPath IsEntry) scope_field entry_group kind bytes a.0 fits a.1 in
    let whole : flattened a.0 ≡ es = ok_is (flattened a.0) es a.2 in
    let parts : parted es ≡ a.0 = sym (ap parted whole) ∙ parted-flattened a.0 t.0.ascending t.0.each in
    record {
      scoped = subst AreScoped (sym parts) t.0;
      ascending = subst (λ (l : List (PlaceParts × Entry)). IsTrue (is_sorted place_cmp l)) whole (flattened_sorted a.0 t.0);
      spelled = t.1 ∙ ap (spelling scope (pairs path entry) kind) (sym parts);
    }

pub entries_again : (kind : ℕ) (es : List (PlaceParts × Entry)) → AreScoped (parted es)
    → entries_in kind (spelling scope (pairs path entry) kind (parted es)) ≡ Ok es
unfolding entries_in
entries_again kind es are =
    ap (λ (r : Result (List Scoped) SpellingFault). r >>= joined)
    (all_again scope_cmp scope_cmp_total scope_at scope IsScope (group_at path_cmp path_at entry_at) (pairs path entry) (AreGroup path_cmp IsPath IsEntry) scope_field entry_group kind (parted es) are)
    ∙ ap (λ (l : List (PlaceParts × Entry)). Ok l) (flattened-parted es)

-- the sum of entries whose places ascend holds just these
pub entries_of_sum : (es : List (PlaceParts × Entry)) → IsTrue (is_sorted place_cmp es) → finmap.entries (sum_of (map edit_of es)) ≡ es
entries_of_sum es ascending =
    ap finmap.entries (ap (λ (l : List (PlaceParts × Entry)). sum_of (map edit_of l)) (sym (finmap.entries-from_sorted place_cmp es (to_T _ ascending))) ∙ sum_of-edits_of (finmap.from_sorted {R = place_cmp} es))
    ∙ finmap.entries-from_sorted place_cmp es (to_T _ ascending)

same_entries : (kind : ℕ) (s t : EntryMap) → HasSpelling s → HasSpelling t → spelling_of kind s ≡ spelling_of kind t → s ≡ t
same_entries kind s t p q e =
    finmap.same_entries_map s t (ok_is (finmap.entries s) (finmap.entries t) (sym (entries_again kind (finmap.entries s) p) ∙ ap (entries_in kind) e ∙ entries_again kind (finmap.entries t) q))

one_spelling : (kind : ℕ) (b c : List ℕ) (es : List (PlaceParts × Entry)) → IsBytes b → IsBytes c
    → entries_in kind b ≡ Ok es → entries_in kind c ≡ Ok es → b ≡ c
one_spelling kind b c es p q d e = (entries_taken kind b es p d).spelled ∙ sym (entries_taken kind c es q e).spelled

-- ---- digests

pub versions_taken : (bytes : List ℕ) (vs : List (PlaceParts × Version)) → IsBytes bytes → versions_in bytes ≡ Ok vs
    → ArePairs place_cmp IsPlace IsVersion vs × (bytes ≡ spelling place version 3 vs)
unfolding versions_in
versions_taken bytes vs fits e = all_takes place_cmp place_cmp_total place_at place IsPlace version_at version IsVersion place_field version_field 3 bytes vs fits e

pub versions_again : (vs : List (PlaceParts × Version)) → ArePairs place_cmp IsPlace IsVersion vs
    → versions_in (spelling place version 3 vs) ≡ Ok vs
unfolding versions_in
versions_again vs are = all_again place_cmp place_cmp_total place_at place IsPlace version_at version IsVersion place_field version_field 3 vs are

-- the versions of a digest that fit have a spelling
pub versions_spelled : (d : VersionMap) (vs : List (PlaceParts × Version)) → vs ≡ finmap.entries d → length vs < 2 ^ 64
    → AllByRecursion (λ p. IsPlace p.0 × IsVersion p.1) vs → HasVersionSpelling d
versions_spelled d vs same few fit = record {
  count = subst (λ (l : List (PlaceParts × Version)). length l < 2 ^ 64) same few;
  each = subst (λ (l : List (PlaceParts × Version)). AllByRecursion (λ p. IsPlace p.0 × IsVersion p.1) l) same fit;
  ascending = from_T _ (finmap.entries_sorted d);
}

same_versions : (d e : VersionMap) → HasVersionSpelling d → HasVersionSpelling e → digest_spelling d ≡ digest_spelling e → d ≡ e
same_versions d e p q h =
    finmap.same_entries_map d e (ok_is (finmap.entries d) (finmap.entries e) (sym (versions_again (finmap.entries d) p) ∙ ap versions_in h ∙ versions_again (finmap.entries e) q))

one_version_spelling : (b c : List ℕ) (vs : List (PlaceParts × Version)) → IsBytes b → IsBytes c → versions_in b ≡ Ok vs
    → versions_in c ≡ Ok vs → b ≡ c
one_version_spelling b c vs p q d e = (versions_taken b vs p d).1 ∙ sym (versions_taken c vs q e).1

pub are_one_to_one : AreOneToOne
are_one_to_one = record {
  same_entries = same_entries;
  same_versions = same_versions;
  one_spelling = one_spelling;
  one_version_spelling = one_version_spelling;
}
