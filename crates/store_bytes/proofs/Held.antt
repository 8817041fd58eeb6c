-- What is read one by one is what the bytes spell.
use Rattle.std.proofs.Common.{◌≡◌, ℕ, ◌++◌, ◌∷◌, [], List, map, Result, Ok, Err, refl, sym, ap, ◌∙◌, append_assoc}
use Rattle.std.specs.Prelude.{IfOk}
use Rattle.std.proofs.lemmas.List.{append-nil, map_push}
use Rattle.std.specs.FinMap as finmap
use Rattle.byte_fields.specs.FieldLaws.{ok_is}
use Rattle.byte_fields.specs.Laws.{IsBytes}
use Rattle.byte_fields.specs.Reading.{◌>>=◌, Fails, Gives}
use Rattle.byte_fields.specs.declared.faults.DecodeFault.{DecodeFault}
use Rattle.byte_fields.specs.declared.faults.DecodeFault.TheVariants as decode
use Rattle.byte_fields.specs.declared.faults.SpellingFault.{SpellingFault}
use Rattle.load_places.specs.Places.{PlaceParts}
use Rattle.edit_sums.specs.Entries.{Entry}
use Rattle.edit_sums.specs.Sums.{edit_of, EntryMap, sum_of, with_edit}
use Rattle.edit_sums.specs.SumLaws.{sum_of-push}
use Rattle.world_law.specs.Cuts.{VersionMap}
use Rattle.store_bytes.specs.Bytes.{digest_spelling, entries_in, HasSpelling, HasVersionSpelling, spelling_of, versions_in}
use Rattle.store_bytes.specs.BytesLaws.{entries_again, entries_of_sum, entries_taken, versions_again, versions_taken}
use Rattle.store_bytes.specs.Streams.{with_first}

-- ---- one by one

-- these came, and those that are left follow
abbrev pub IsPartOf : {P : Type 0} → Result (List P) SpellingFault → List P → Result (List P) SpellingFault → Type 0
IsPartOf total prefix left = total ≡ (left >>= λ ps. Ok (prefix ++ ps))

part_begins : {P : Type 0} (left : Result (List P) SpellingFault) → IsPartOf left [] left
part_begins (Ok ps) = refl
part_begins (Err d) = refl

part_goes_on : {P : Type 0} (prefix : List P) (p : P) (left : Result (List P) SpellingFault) → (with_first p left >>= λ ps. Ok (prefix ++ ps)) ≡ (left >>= λ ps. Ok ((prefix ++ p ∷ []) ++ ps))
part_goes_on {P} prefix p (Ok ps) = ap (λ (l : List P). Ok l) (sym (append_assoc prefix (p ∷ []) ps))
part_goes_on prefix p (Err d) = refl

abbrev prefix_then : {P : Type 0} → List P → Result (List P) SpellingFault → Result (List P) SpellingFault
prefix_then prefix left = left >>= λ ps. Ok (prefix ++ ps)

pub part_more : {P : Type 0} (total : Result (List P) SpellingFault) (prefix : List P) (p : P) (old new : Result (List P) SpellingFault) → IsPartOf total prefix old → old ≡ with_first p new → IsPartOf total (prefix ++ p ∷ []) new
part_more total prefix p old new part e = part ∙ ap (prefix_then prefix) e ∙ part_goes_on prefix p new

pub part_ends : {P : Type 0} (total : Result (List P) SpellingFault) (prefix : List P) (left : Result (List P) SpellingFault) → IsPartOf total prefix left → left ≡ Ok [] → total ≡ Ok prefix
part_ends {P} total prefix left part e = part ∙ ap (prefix_then prefix) e ∙ ap (λ (l : List P). Ok l) (append-nil prefix)

pub part_fails : {P : Type 0} (total : Result (List P) SpellingFault) (prefix : List P) (left : Result (List P) SpellingFault) (e : DecodeFault) → IsPartOf total prefix left → Fails e left → Fails e total
part_fails total prefix left decode.Memory part h = tt
part_fails total prefix left (decode.Fault d) part h = part ∙ ap (prefix_then prefix) h

pub part_starts : {P : Type 0} (total left : Result (List P) SpellingFault) → left ≡ total → IsPartOf total [] left
part_starts total left e = sym e ∙ part_begins left

-- ---- entries

-- a store of entries that came
pub record IsPartlyRead (total left : Result (List (PlaceParts × Entry)) SpellingFault) (store : EntryMap) : Type 0 where
  pub prefix : List (PlaceParts × Entry)
  pub held : store ≡ sum_of (map edit_of prefix)
  pub part : IsPartOf total prefix left

pub reading_starts : (total left : Result (List (PlaceParts × Entry)) SpellingFault) (store : EntryMap) → left ≡ total → store ≡ finmap.empty → IsPartlyRead total left store
reading_starts total left store e none = record { prefix = []; held = none; part = part_starts total left e }

pub reading_goes_on : (total old new : Result (List (PlaceParts × Entry)) SpellingFault) (before after : EntryMap) (p : PlaceParts × Entry) → IsPartlyRead total old before → old ≡ with_first p new
    → after ≡ with_edit before (edit_of p) → IsPartlyRead total new after
reading_goes_on total old new before after p is e joined = record {
  prefix = is.prefix ++ p ∷ [];
  held = joined ∙ ap (λ (s : EntryMap). with_edit s (edit_of p)) is.held ∙ sym (sum_of-push (map edit_of is.prefix) (edit_of p)) ∙ ap sum_of (sym (map_push edit_of is.prefix p));
  part = part_more total is.prefix p old new is.part e;
}

pub reading_fails : (total left : Result (List (PlaceParts × Entry)) SpellingFault) (store : EntryMap) (e : DecodeFault) → IsPartlyRead total left store → Fails e left → Fails e total
reading_fails total left store e is h = part_fails total is.prefix left e is.part h

pub reading_ends : (kind : ℕ) (bytes : List ℕ) (left : Result (List (PlaceParts × Entry)) SpellingFault) (store : EntryMap) → IsBytes bytes → IsPartlyRead (entries_in kind bytes) left store → left ≡ Ok []
    → entries_in kind bytes ≡ Ok (finmap.entries store)
reading_ends kind bytes left store fits is e =
    let read : entries_in kind bytes ≡ Ok is.prefix = part_ends (entries_in kind bytes) is.prefix left is.part e in
    let holds : finmap.entries store ≡ is.prefix = ap finmap.entries is.held ∙ entries_of_sum is.prefix (entries_taken kind bytes is.prefix fits read).ascending in
    read ∙ ap (λ (l : List (PlaceParts × Entry)). Ok l) (sym holds)

-- ---- what is read is spelled so, and what is spelled so is read

pub entries_found : (kind : ℕ) (bytes : List ℕ) (r : Result EntryMap DecodeFault) → IsBytes bytes → Gives (λ s. finmap.entries s) r (entries_in kind bytes) → IfOk r (λ s. HasSpelling s × (bytes ≡ spelling_of kind s))
entries_found kind bytes (Ok s) fits e = let are = entries_taken kind bytes (finmap.entries s) fits e in (are.scoped, are.spelled)
entries_found kind bytes (Err f) fits e = tt

pub entries_only : (kind : ℕ) (bytes : List ℕ) (r : Result EntryMap DecodeFault) → Gives (λ s. finmap.entries s) r (entries_in kind bytes) → (s : EntryMap) → HasSpelling s → bytes ≡ spelling_of kind s → Gives (λ t. t) r (Ok s)
entries_only kind bytes (Err decode.Memory) e s is same = tt
entries_only kind bytes (Err (decode.Fault d)) e s is same =
    let wrong : Err d ≡ Ok (finmap.entries s) = sym e ∙ ap (entries_in kind) same ∙ entries_again kind (finmap.entries s) is in
    absurd cc
entries_only kind bytes (Ok t) e s is same =
    let read : Ok (finmap.entries s) ≡ Ok (finmap.entries t) = sym (entries_again kind (finmap.entries s) is) ∙ ap (entries_in kind) (sym same) ∙ e in
    ap (λ (m : EntryMap). Ok m) (finmap.same_entries_map s t (ok_is (finmap.entries s) (finmap.entries t) read))

pub versions_found : (bytes : List ℕ) (r : Result VersionMap DecodeFault) → IsBytes bytes → Gives (λ d. finmap.entries d) r (versions_in bytes) → IfOk r (λ d. HasVersionSpelling d × (bytes ≡ digest_spelling d))
versions_found bytes (Ok d) fits e = versions_taken bytes (finmap.entries d) fits e
versions_found bytes (Err f) fits e = tt

pub versions_only : (bytes : List ℕ) (r : Result VersionMap DecodeFault) → Gives (λ d. finmap.entries d) r (versions_in bytes) → (d : VersionMap) → HasVersionSpelling d → bytes ≡ digest_spelling d → Gives (λ t. t) r (Ok d)
versions_only bytes (Err decode.Memory) e d is same = tt
versions_only bytes (Err (decode.Fault f)) e d is same =
    let wrong : Err f ≡ Ok (finmap.entries d) = sym e ∙ ap versions_in same ∙ versions_again (finmap.entries d) is in
    absurd cc
versions_only bytes (Ok t) e d is same =
    let read : Ok (finmap.entries d) ≡ Ok (finmap.entries t) = sym (versions_again (finmap.entries d) is) ∙ ap versions_in (sym same) ∙ e in
    ap (λ (m : VersionMap). Ok m) (finmap.same_entries_map d t (ok_is (finmap.entries d) (finmap.entries t) read))
