-- One step of a reader.
use Rattle.std.proofs.Common.{◌≡◌, ℕ, zero, suc, ◌+◌, ◌-◌, ◌<◌, Bool, true, false, cond, eqb, List, [], ◌∷◌, ◌++◌, length, Option, Some, None, Result, Ok, Err, refl, sym, ap, subst, ◌∙◌, arith}
use Rattle.std.specs.Prelude.{IfErr, IfOk}
use Rattle.std.specs.declared.cmp.Ordering.{Ordering}
use Rattle.byte_fields.specs.Reading.{◌>>=◌, Fails, Gives, number_at}
use Rattle.byte_fields.specs.declared.faults.DecodeFault.{DecodeFault}
use Rattle.byte_fields.specs.declared.faults.DecodeFault.TheVariants as decode
use Rattle.byte_fields.specs.declared.faults.SpellingFault.{SpellingFault}
use Rattle.byte_fields.specs.declared.faults.SpellingFault.TheVariants as fault
use Rattle.join_law.specs.declared.versions.Version.{Version}
use Rattle.load_path.specs.Paths.{path_cmp, PathParts}
use Rattle.load_places.specs.Places.{place_cmp, PlaceParts, scope_cmp}
use Rattle.load_places.specs.declared.places.Scope.{Scope}
use Rattle.edit_sums.specs.Entries.{Entry}
use Rattle.path_maps.specs.PlaceMaps.{placed}
use Rattle.path_maps.specs.Scopes.{within}
use Rattle.store_bytes.specs.Bytes.{entries_in, versions_in}
use Rattle.store_bytes.specs.ListReading.{all_of, group_at, opened, pair_above_at, pairs_above_at, pairs_of, Reader}
use Rattle.store_bytes.specs.Reading.{entry_at, path_at, place_at, scope_at, version_at}
use Rattle.store_bytes.specs.ScopeLaws.{as_first, as_scope, scope_has_entries, scope_headed, scope_not_headed}
use Rattle.store_bytes.specs.Stores.{flattened, Scoped}
use Rattle.store_bytes.specs.Streams.{ended, entries_after, entries_begun, entries_to_come, EntriesLeft, scope_head_at, scope_or_fleet, versions_begun, versions_to_come, VersionsLeft, with_first}

-- ---- any pairs, and what is made of them at the end

module _ {K V Q : Type 0} (cmp : K → K → Ordering) (f : Reader K) (g : Reader V) (after : List (K × V) × List ℕ → Result (List Q) SpellingFault) (q : K × V → Q)
    (pushes : (p : K × V) (x : List (K × V) × List ℕ) → after (p ∷ x.0, x.1) ≡ with_first (q p) (after x)) where
  pushed_through : (p : K × V) (read : Result (List (K × V) × List ℕ) SpellingFault) → ((read >>= λ x. Ok (p ∷ x.0, x.1)) >>= after) ≡ with_first (q p) (read >>= after)
  pushed_through p (Ok x) = pushes p x
  pushed_through p (Err d) = refl

  -- a pair is read
  pair_comes : (n : ℕ) (last : Option K) (bytes : List ℕ) (p : K × V) (rest : List ℕ) → 0 < n → pair_above_at cmp f g last bytes ≡ Ok (p, rest)
      → (pairs_above_at cmp f g n last bytes >>= after) ≡ with_first (q p) (pairs_above_at cmp f g (n - 1) (Some p.0) rest >>= after)
  unfolding pairs_above_at
  pair_comes zero last bytes p rest some e = absurd (omega arith)
  pair_comes (suc n) last bytes p rest some e =
      let less : suc n - 1 ≡ n = omega arith in
      rw (e, less) (pushed_through p (pairs_above_at cmp f g n (Some p.0) rest))

  -- a pair isn't read
  pair_fails : (n : ℕ) (last : Option K) (bytes : List ℕ) (e : DecodeFault) → 0 < n → Fails e (pair_above_at cmp f g last bytes) → Fails e (pairs_above_at cmp f g n last bytes >>= after)
  unfolding pairs_above_at
  pair_fails n last bytes decode.Memory some e = tt
  pair_fails zero last bytes (decode.Fault d) some e = absurd (omega arith)
  pair_fails (suc n) last bytes (decode.Fault d) some e = rw e refl

fails_with : {A : Type 0} (e : DecodeFault) (a b : Result A SpellingFault) → a ≡ b → Fails e a → Fails e b
fails_with e a b same h = subst (Fails e) same h

ended-pushes : {P : Type 0} (p : P) (x : List P × List ℕ) → ended (p ∷ x.0, x.1) ≡ with_first p (ended x)
ended-pushes {P} p x = by (eqb (length x.1) 0)
  where
    by : (b : Bool) → cond b (Ok (p ∷ x.0)) (Err fault.Trailing) ≡ with_first {P = P} p (cond b (Ok x.0) (Err fault.Trailing))
    by true = refl
    by false = refl

-- ---- versions

pub version_comes : (n : ℕ) (last : Option PlaceParts) (bytes : List ℕ) (p : PlaceParts × Version) (rest : List ℕ) → 0 < n → pair_above_at place_cmp place_at version_at last bytes ≡ Ok (p, rest)
    → versions_to_come (record { count = n; last = last; rest = bytes }) ≡ with_first p (versions_to_come (record { count = n - 1; last = Some p.0; rest = rest }))
unfolding versions_to_come
version_comes n last bytes p rest some e = pair_comes place_cmp place_at version_at ended (λ p. p) ended-pushes n last bytes p rest some e

pub version_fails : (n : ℕ) (last : Option PlaceParts) (bytes : List ℕ) (e : DecodeFault) → 0 < n → Fails e (pair_above_at place_cmp place_at version_at last bytes)
    → Fails e (versions_to_come (record { count = n; last = last; rest = bytes }))
unfolding versions_to_come
version_fails n last bytes e some h = pair_fails place_cmp place_at version_at ended (λ p. p) ended-pushes n last bytes e some h

pub no_version_left : (last : Option PlaceParts) (bytes : List ℕ) → versions_to_come (record { count = 0; last = last; rest = bytes }) ≡ ended ([], bytes)
unfolding versions_to_come pairs_above_at
no_version_left last bytes = refl

-- all are to come where reading begins
all_versions_to_come : (bytes : List ℕ) → (versions_begun bytes >>= versions_to_come) ≡ versions_in bytes
unfolding versions_begun versions_in all_of pairs_of versions_to_come
all_versions_to_come bytes = by (opened 3 bytes)
  where
    from : Result (ℕ × List ℕ) SpellingFault → Result (List (PlaceParts × Version)) SpellingFault
    from r = r >>= λ count. pairs_above_at place_cmp place_at version_at count.0 None count.1 >>= ended

    begun_from : Result (ℕ × List ℕ) SpellingFault → Result VersionsLeft SpellingFault
    begun_from r = r >>= λ count. Ok (record { count = count.0; last = None; rest = count.1 })

    inner : (r : Result (ℕ × List ℕ) SpellingFault) → (begun_from r >>= versions_to_come) ≡ from r
    inner (Ok count) = refl
    inner (Err d) = refl

    by : (r : Result (List ℕ) SpellingFault) → ((r >>= λ i. begun_from (number_at i)) >>= versions_to_come) ≡ (r >>= pairs_of place_cmp place_at version_at)
    by (Ok i) = inner (number_at i)
    by (Err d) = refl

pub versions_begin : (bytes : List ℕ) (r : Result VersionsLeft DecodeFault) → Gives (λ d. d) r (versions_begun bytes) → IfOk r (λ d. versions_to_come d ≡ versions_in bytes)
versions_begin bytes (Ok d) e = sym (ap (λ (r : Result VersionsLeft SpellingFault). r >>= versions_to_come) e) ∙ all_versions_to_come bytes
versions_begin bytes (Err d) e = tt

pub versions_begin_not : (bytes : List ℕ) (r : Result VersionsLeft DecodeFault) → Gives (λ d. d) r (versions_begun bytes) → IfErr r (λ e. Fails e (versions_in bytes))
versions_begin_not bytes (Ok d) e = tt
versions_begin_not bytes (Err decode.Memory) e = tt
versions_begin_not bytes (Err (decode.Fault d)) e = sym (all_versions_to_come bytes) ∙ ap (λ (r : Result VersionsLeft SpellingFault). r >>= versions_to_come) e

-- ---- entries

entries_after-pushes : (scopes : ℕ) (scope : Option Scope) (p : PathParts × Entry) (x : List (PathParts × Entry) × List ℕ)
    → entries_after scopes scope (p ∷ x.0, x.1) ≡ with_first (within (scope_or_fleet scope) p.0, p.1) (entries_after scopes scope x)
entries_after-pushes scopes scope p x = by (pairs_above_at scope_cmp scope_at (group_at path_cmp path_at entry_at) scopes scope x.1)
  where
    first : PlaceParts × Entry
    first = (within (scope_or_fleet scope) p.0, p.1)

    by : (r : Result (List Scoped × List ℕ) SpellingFault)
        → (r >>= λ others. ended (placed (scope_or_fleet scope) (p ∷ x.0) ++ flattened others.0, others.1)) ≡ with_first first (r >>= λ others. ended (placed (scope_or_fleet scope) x.0 ++ flattened others.0, others.1))
    by (Ok others) = ended-pushes first (placed (scope_or_fleet scope) x.0 ++ flattened others.0, others.1)
    by (Err d) = refl

abbrev left_at : ℕ → Option Scope → ℕ → Option PathParts → List ℕ → EntriesLeft
left_at scopes scope entries path rest = record { scopes = scopes; scope = scope; entries = entries; path = path; rest = rest }

pub entry_comes : (scopes : ℕ) (scope : Option Scope) (n : ℕ) (last : Option PathParts) (bytes : List ℕ) (p : PathParts × Entry) (rest : List ℕ) → 0 < n → pair_above_at path_cmp path_at entry_at last bytes ≡ Ok (p, rest)
    → entries_to_come (record { scopes = scopes; scope = scope; entries = n; path = last; rest = bytes })
    ≡ with_first (within (scope_or_fleet scope) p.0, p.1) (entries_to_come (record { scopes = scopes; scope = scope; entries = n - 1; path = Some p.0; rest = rest }))
unfolding entries_to_come
entry_comes scopes scope n last bytes p rest some e =
    pair_comes path_cmp path_at entry_at (entries_after scopes scope) (λ p. (within (scope_or_fleet scope) p.0, p.1)) (entries_after-pushes scopes scope) n last bytes p rest some e

pub entry_fails : (scopes : ℕ) (scope : Option Scope) (n : ℕ) (last : Option PathParts) (bytes : List ℕ) (e : DecodeFault) → 0 < n → Fails e (pair_above_at path_cmp path_at entry_at last bytes)
    → Fails e (entries_to_come (record { scopes = scopes; scope = scope; entries = n; path = last; rest = bytes }))
unfolding entries_to_come
entry_fails scopes scope n last bytes e some h =
    pair_fails path_cmp path_at entry_at (entries_after scopes scope) (λ p. (within (scope_or_fleet scope) p.0, p.1)) (entries_after-pushes scopes scope) n last bytes e some h

pub one_entry_less : (scopes entries : ℕ) → 0 < entries → scopes + (entries - 1) < scopes + entries
one_entry_less scopes entries some = omega arith

-- where no entry of the last scope is left, scopes are to come
abbrev scopes_to_come : ℕ → Option Scope → List ℕ → Result (List (PlaceParts × Entry)) SpellingFault
scopes_to_come n scope bytes = pairs_above_at scope_cmp scope_at (group_at path_cmp path_at entry_at) n scope bytes >>= λ others. ended (flattened others.0, others.1)

between_scopes : (scopes : ℕ) (scope : Option Scope) (path : Option PathParts) (bytes : List ℕ) → entries_to_come (left_at scopes scope 0 path bytes) ≡ scopes_to_come scopes scope bytes
unfolding entries_to_come pairs_above_at
between_scopes scopes scope path bytes = refl

pub no_entry_left : (scope : Option Scope) (path : Option PathParts) (bytes : List ℕ) → entries_to_come (record { scopes = 0; scope = scope; entries = 0; path = path; rest = bytes }) ≡ ended ([], bytes)
unfolding entries_to_come pairs_above_at
no_entry_left scope path bytes = refl

abbrev scopes_at : ℕ → Scope → List ℕ → Result (List Scoped × List ℕ) SpellingFault
scopes_at n s bytes = pairs_above_at scope_cmp scope_at (group_at path_cmp path_at entry_at) n (Some s) bytes

abbrev end_scopes : List Scoped × List ℕ → Result (List (PlaceParts × Entry)) SpellingFault
end_scopes others = ended (flattened others.0, others.1)

abbrev scopes_then : ℕ → Result (Scoped × List ℕ) SpellingFault → Result (List (PlaceParts × Entry)) SpellingFault
scopes_then n r = (r >>= λ first. scopes_at n first.0.0 first.1 >>= as_first first.0) >>= end_scopes

entered_after : (n : ℕ) (s : Scope) (r : Result (List (PathParts × Entry) × List ℕ) SpellingFault) → scopes_then n (r >>= as_scope s) ≡ (r >>= entries_after n (Some s))
entered_after n s (Err d) = refl
entered_after n s (Ok own) = by (scopes_at n s own.1)
  where
    first : Scoped
    first = (s, own.0)

    by : (r : Result (List Scoped × List ℕ) SpellingFault) → ((r >>= as_first first) >>= end_scopes) ≡ (r >>= λ others. ended (placed s own.0 ++ flattened others.0, others.1))
    by (Ok others) = refl
    by (Err d) = refl

next_scopes : (n : ℕ) (last : Option Scope) (bytes : List ℕ) → scopes_to_come (suc n) last bytes ≡ scopes_then n (pair_above_at scope_cmp scope_at (group_at path_cmp path_at entry_at) last bytes)
unfolding pairs_above_at
next_scopes n last bytes = refl

pub record IsEntered (n : ℕ) (scope : Option Scope) (path : Option PathParts) (bytes : List ℕ) (s : Scope) (count : ℕ) (rest : List ℕ) : Type 0 where
  pub same : entries_to_come (record { scopes = n; scope = scope; entries = 0; path = path; rest = bytes }) ≡ entries_to_come (record { scopes = n - 1; scope = Some s; entries = count; path = None; rest = rest })
  pub some : 0 < count

-- the head of the next scope is read, and its entries are to come
pub scope_entered : (n : ℕ) (scope : Option Scope) (path : Option PathParts) (bytes : List ℕ) (s : Scope) (count : ℕ) (rest : List ℕ) → 0 < n → scope_head_at scope bytes ≡ Ok ((s, count), rest)
    → IsEntered n scope path bytes s count rest
unfolding entries_to_come
scope_entered zero scope path bytes s count rest some e = absurd (omega arith)
scope_entered (suc n) scope path bytes s count rest some e =
    let less : suc n - 1 ≡ n = omega arith in
    record {
      same = between_scopes (suc n) scope path bytes ∙ next_scopes n scope bytes ∙ ap (scopes_then n) (scope_headed scope bytes s count rest e) ∙ entered_after n s (pairs_above_at path_cmp path_at entry_at count None rest)
          ∙ ap (λ k. entries_to_come (left_at k (Some s) count None rest)) (sym less);
      some = scope_has_entries scope bytes s count rest e;
    }

pub scope_not_entered : (n : ℕ) (scope : Option Scope) (path : Option PathParts) (bytes : List ℕ) (e : DecodeFault) → 0 < n → Fails e (scope_head_at scope bytes)
    → Fails e (entries_to_come (record { scopes = n; scope = scope; entries = 0; path = path; rest = bytes }))
scope_not_entered n scope path bytes decode.Memory some e = tt
scope_not_entered zero scope path bytes (decode.Fault d) some e = absurd (omega arith)
scope_not_entered (suc n) scope path bytes (decode.Fault d) some e =
    between_scopes (suc n) scope path bytes ∙ next_scopes n scope bytes ∙ ap (scopes_then n) (scope_not_headed scope bytes d e)

-- all are to come where reading begins
all_entries_to_come : (kind : ℕ) (bytes : List ℕ) → (entries_begun kind bytes >>= entries_to_come) ≡ entries_in kind bytes
unfolding entries_begun entries_in all_of pairs_of
all_entries_to_come kind bytes = by (opened kind bytes)
  where
    from : Result (ℕ × List ℕ) SpellingFault → Result (List Scoped) SpellingFault
    from r = r >>= λ count. pairs_above_at scope_cmp scope_at (group_at path_cmp path_at entry_at) count.0 None count.1 >>= ended

    begun_from : Result (ℕ × List ℕ) SpellingFault → Result EntriesLeft SpellingFault
    begun_from r = r >>= λ count. Ok (record { scopes = count.0; scope = None; entries = 0; path = None; rest = count.1 })

    joined_ended : (r : Result (List Scoped × List ℕ) SpellingFault) → (r >>= λ others. ended (flattened others.0, others.1)) ≡ ((r >>= ended) >>= λ scopes. Ok (flattened scopes))
    joined_ended (Err d) = refl
    joined_ended (Ok x) = either (eqb (length x.1) 0)
      where
        either : (b : Bool) → cond b (Ok (flattened x.0)) (Err fault.Trailing) ≡ ((cond b (Ok x.0) (Err fault.Trailing)) >>= λ scopes. Ok (flattened scopes))
        either true = refl
        either false = refl

    inner : (r : Result (ℕ × List ℕ) SpellingFault) → (begun_from r >>= entries_to_come) ≡ (from r >>= λ scopes. Ok (flattened scopes))
    inner (Ok count) = between_scopes count.0 None None count.1 ∙ joined_ended (pairs_above_at scope_cmp scope_at (group_at path_cmp path_at entry_at) count.0 None count.1)
    inner (Err d) = refl

    by : (r : Result (List ℕ) SpellingFault) → ((r >>= λ i. begun_from (number_at i)) >>= entries_to_come) ≡ ((r >>= pairs_of scope_cmp scope_at (group_at path_cmp path_at entry_at)) >>= λ scopes. Ok (flattened scopes))
    by (Ok i) = inner (number_at i)
    by (Err d) = refl

pub entries_begin : (kind : ℕ) (bytes : List ℕ) (r : Result EntriesLeft DecodeFault) → Gives (λ d. d) r (entries_begun kind bytes) → IfOk r (λ d. entries_to_come d ≡ entries_in kind bytes)
entries_begin kind bytes (Ok d) e = sym (ap (λ (r : Result EntriesLeft SpellingFault). r >>= entries_to_come) e) ∙ all_entries_to_come kind bytes
entries_begin kind bytes (Err d) e = tt

pub entries_begin_not : (kind : ℕ) (bytes : List ℕ) (r : Result EntriesLeft DecodeFault) → Gives (λ d. d) r (entries_begun kind bytes) → IfErr r (λ e. Fails e (entries_in kind bytes))
entries_begin_not kind bytes (Ok d) e = tt
entries_begin_not kind bytes (Err decode.Memory) e = tt
entries_begin_not kind bytes (Err (decode.Fault d)) e = sym (all_entries_to_come kind bytes) ∙ ap (λ (r : Result EntriesLeft SpellingFault). r >>= entries_to_come) e
