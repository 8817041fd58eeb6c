-- A store that takes the entries of scopes as they are read.
use Rattle.std.proofs.Common.{◌≡◌, ◌∷◌, ◌<◌, ℕ, suc, [], List, map, Option, None, Some, Result, Ok, Err, refl, sym, ap, subst, ◌∙◌}
use Rattle.std.proofs.lemmas.List.{map-append}
use Rattle.std.specs.FinMap as finmap
use Rattle.std.specs.List.{fold}
use Rattle.std.proofs.lemmas.Grind.{fold-append}
use Rattle.list_laws.specs.Truths.{to_T}
use Rattle.byte_fields.specs.declared.faults.SpellingFault.{SpellingFault}
use Rattle.byte_fields.specs.declared.faults.DecodeFault.{DecodeFault}
use Rattle.byte_fields.specs.declared.faults.DecodeFault.TheVariants as decode
use Rattle.byte_fields.specs.FieldLaws.{bind_ok, ok_is}
use Rattle.byte_fields.specs.Laws.{IsBytes}
use Rattle.byte_fields.specs.Reading.{◌>>=◌, Fails, number_at}
use Rattle.load_path.specs.Paths.{path_cmp, PathParts}
use Rattle.load_places.specs.Places.{place_cmp, scope_cmp}
use Rattle.load_places.specs.declared.places.Scope.{Scope}
use Rattle.edit_sums.specs.declared.entries.Edit.{Edit}
use Rattle.edit_sums.specs.Entries.{Entry}
use Rattle.edit_sums.specs.Sums.{edit_of, EntryMap, join, sum_of, with_edit}
use Rattle.edit_sums.specs.SumLaws.{join_assoc, join_comm, join-nothing, sum_of-append, with_edit-join}
use Rattle.path_maps.specs.PlaceMaps.{placed}
use Rattle.path_maps.specs.Scopes.{within}
use Rattle.store_bytes.specs.BytesLaws.{entries_of_sum}
use Rattle.store_bytes.specs.ListReading.{group_at, list_at, pair_above_at, pairs_above_at}
use Rattle.store_bytes.specs.Reading.{entry_at, path_at, scope_at}
use Rattle.store_bytes.specs.ScopeLaws.{as_scope, scope_headed, scope_not_headed}
use Rattle.store_bytes.specs.StoreLaws.{flattened_sorted}
use Rattle.store_bytes.specs.Stores.{AreScoped, flattened, Scoped}
use Rattle.store_bytes.specs.Streams.{scope_head_at}
use Rattle.exchange_bytes.specs.Chains.{chain_at, chained_at}
use Rattle.exchange_bytes.specs.PartLaws.{scopes_field}
use Rattle.exchange_bytes.specs.Pieces.{own_taken, scope_taken, scopes_taken, with_own, with_scopes}
use Rattle.exchange_bytes.specs.Reading.{piece_at}
use Rattle.exchange_bytes.proofs.Loops.{all_made, list_chained, none_made, one_made, pairs_chain}

-- ---- entries of a scope

abbrev entry_read : Option PathParts → List ℕ → Result ((PathParts × Entry) × List ℕ) SpellingFault
entry_read = pair_above_at path_cmp path_at entry_at

abbrev with_one : Scope → EntryMap → PathParts × Entry → EntryMap
with_one scope s e = with_edit s (edit_of (within scope e.0, e.1))

-- so many entries are left
abbrev pub AreOwnLeft : Scope → Result (EntryMap × List ℕ) SpellingFault → EntryMap → ℕ → Option PathParts → List ℕ → Type 0
AreOwnLeft scope total s n last bytes = total ≡ (chain_at entry_read (λ p. Some p.0) n last bytes >>= λ x. Ok (with_own scope s x.0, x.1))

pub own_begins : (scope : Scope) (s : EntryMap) (count n : ℕ) (bytes : List ℕ) → n ≡ count → AreOwnLeft scope (own_taken scope s count bytes) s n None bytes
unfolding own_taken
own_begins scope s count n bytes all =
    ap (λ (r : Result (List (PathParts × Entry) × List ℕ) SpellingFault). r >>= λ es. Ok (with_own scope s es.0, es.1)) (pairs_chain path_cmp path_at entry_at count None bytes)
    ∙ ap (λ (k : ℕ). chain_at entry_read (λ p. Some p.0) k None bytes >>= λ x. Ok (with_own scope s x.0, x.1)) (sym all)

pub own_goes_on : (scope : Scope) (total : Result (EntryMap × List ℕ) SpellingFault) (s grown : EntryMap) (n m : ℕ) (last now : Option PathParts) (bytes rest : List ℕ) (e : PathParts × Entry) → n ≡ suc m → AreOwnLeft scope total s n last bytes
    → entry_read last bytes ≡ Ok (e, rest) → grown ≡ with_one scope s e → now ≡ Some e.0 → AreOwnLeft scope total grown m now rest
own_goes_on scope = one_made entry_read (λ p. Some p.0) (with_own scope) (with_one scope) (λ s e es. refl)

pub own_fails : (scope : Scope) (total : Result (EntryMap × List ℕ) SpellingFault) (s : EntryMap) (n : ℕ) (last : Option PathParts) (bytes : List ℕ) (e : DecodeFault) → 0 < n → AreOwnLeft scope total s n last bytes → Fails e (entry_read last bytes) → Fails e total
own_fails scope = none_made entry_read (λ p. Some p.0) (with_own scope) (with_one scope) (λ s e es. refl)

pub own_ends : (scope : Scope) (total : Result (EntryMap × List ℕ) SpellingFault) (s : EntryMap) (n : ℕ) (last : Option PathParts) (bytes : List ℕ) → n ≡ 0 → AreOwnLeft scope total s n last bytes → total ≡ Ok (s, bytes)
own_ends scope = all_made entry_read (λ p. Some p.0) (with_own scope) (with_one scope) (λ s e es. refl) (λ s. refl)

-- ---- one scope

abbrev into_own : EntryMap → Scoped × List ℕ → Result ((EntryMap × Scope) × List ℕ) SpellingFault
into_own s g = Ok ((with_own g.0.0 s g.0.1, g.0.0), g.1)

abbrev own_from : Scope → EntryMap → List (PathParts × Entry) × List ℕ → Result (EntryMap × List ℕ) SpellingFault
own_from scope s es = Ok (with_own scope s es.0, es.1)

abbrev pub with_its_scope : Scope → EntryMap × List ℕ → Result ((EntryMap × Scope) × List ℕ) SpellingFault
with_its_scope scope x = Ok ((x.0, scope), x.1)

pub scope_comes : (last : Option Scope) (s : EntryMap) (bytes : List ℕ) (scope : Scope) (count : ℕ) (rest : List ℕ) → scope_head_at last bytes ≡ Ok ((scope, count), rest)
    → scope_taken last s bytes ≡ (own_taken scope s count rest >>= with_its_scope scope)
unfolding scope_taken own_taken
scope_comes last s bytes scope count rest e =
    ap (λ (r : Result (Scoped × List ℕ) SpellingFault). r >>= into_own s) (scope_headed last bytes scope count rest e) ∙ by (pairs_above_at path_cmp path_at entry_at count None rest)
  where
    by : (r : Result (List (PathParts × Entry) × List ℕ) SpellingFault) → ((r >>= as_scope scope) >>= into_own s) ≡ ((r >>= own_from scope s) >>= with_its_scope scope)
    by (Ok es) = refl
    by (Err d) = refl

-- its entries are read
pub scope_is_taken : (last : Option Scope) (s grown : EntryMap) (bytes : List ℕ) (scope : Scope) (count : ℕ) (rest after : List ℕ) → scope_head_at last bytes ≡ Ok ((scope, count), rest) → own_taken scope s count rest ≡ Ok (grown, after)
    → scope_taken last s bytes ≡ Ok ((grown, scope), after)
scope_is_taken last s grown bytes scope count rest after e own = scope_comes last s bytes scope count rest e ∙ ap (λ (r : Result (EntryMap × List ℕ) SpellingFault). r >>= with_its_scope scope) own

-- they aren't
pub scope_breaks : (last : Option Scope) (s : EntryMap) (bytes : List ℕ) (scope : Scope) (count : ℕ) (rest : List ℕ) (e : DecodeFault) → scope_head_at last bytes ≡ Ok ((scope, count), rest) → Fails e (own_taken scope s count rest)
    → Fails e (scope_taken last s bytes)
scope_breaks last s bytes scope count rest decode.Memory e own = tt
scope_breaks last s bytes scope count rest (decode.Fault d) e own = scope_comes last s bytes scope count rest e ∙ ap (λ (r : Result (EntryMap × List ℕ) SpellingFault). r >>= with_its_scope scope) own

pub scope_fails : (last : Option Scope) (s : EntryMap) (bytes : List ℕ) (e : DecodeFault) → Fails e (scope_head_at last bytes) → Fails e (scope_taken last s bytes)
unfolding scope_taken
scope_fails last s bytes decode.Memory e = tt
scope_fails last s bytes (decode.Fault d) e =
    ap (λ (r : Result (Scoped × List ℕ) SpellingFault). r >>= λ g. Ok ((with_own g.0.0 s g.0.1, g.0.0), g.1)) (scope_not_headed last bytes d e)

-- ---- all scopes

abbrev group_read : Option Scope → List ℕ → Result (Scoped × List ℕ) SpellingFault
group_read = pair_above_at scope_cmp scope_at (group_at path_cmp path_at entry_at)

abbrev with_group : EntryMap → Scoped → EntryMap
with_group s g = with_own g.0 s g.1

-- so many scopes are left
abbrev pub AreScopesLeft : Result (EntryMap × List ℕ) SpellingFault → EntryMap → ℕ → Option Scope → List ℕ → Type 0
AreScopesLeft total s n last bytes = total ≡ (chain_at group_read (λ g. Some g.0) n last bytes >>= λ x. Ok (with_scopes s x.0, x.1))

groups_grow : (s : EntryMap) (g : Scoped) (gs : List Scoped) → with_scopes s (g ∷ gs) ≡ with_scopes (with_group s g) gs
groups_grow s g gs =
    ap (fold with_edit s) (map-append edit_of (placed g.0 g.1) (flattened gs))
    ∙ fold-append with_edit s (map edit_of (placed g.0 g.1)) (map edit_of (flattened gs))

pub scopes_go_on : (total : Result (EntryMap × List ℕ) SpellingFault) (s : EntryMap) (n m : ℕ) (last : Option Scope) (bytes rest : List ℕ) (grown : EntryMap) (scope : Scope) → n ≡ suc m → AreScopesLeft total s n last bytes
    → scope_taken last s bytes ≡ Ok ((grown, scope), rest) → AreScopesLeft total grown m (Some scope) rest
unfolding scope_taken
scopes_go_on total s n m last bytes rest grown scope one is e =
    let g = bind_ok (group_read last bytes) (λ g. Ok ((with_own g.0.0 s g.0.1, g.0.0), g.1)) ((grown, scope), rest) e in
    let made : (EntryMap × Scope) × List ℕ = ((with_own g.0.0.0 s g.0.0.1, g.0.0.0), g.0.1) in
    subst (λ (y : (EntryMap × Scope) × List ℕ). AreScopesLeft total y.0.0 m (Some y.0.1) y.1) (ok_is made ((grown, scope), rest) g.2)
    (one_made group_read (λ g. Some g.0) with_scopes with_group groups_grow total s (with_group s g.0.0) n m last (Some g.0.0.0) bytes g.0.1 g.0.0 one is g.1 refl refl)

failed : {A B : Type 0} (r : Result A SpellingFault) (f : A → B) (d : SpellingFault) → (r >>= λ a. Ok (f a)) ≡ Err d → r ≡ Err d
failed (Ok a) f d e = absurd cc
failed (Err c) f d e = let same : c ≡ d = cc in ap Err same

group_failed : (last : Option Scope) (s : EntryMap) (bytes : List ℕ) (e : DecodeFault) → Fails e (scope_taken last s bytes) → Fails e (group_read last bytes)
unfolding scope_taken
group_failed last s bytes decode.Memory e = tt
group_failed last s bytes (decode.Fault d) e = failed (group_read last bytes) (λ g. ((with_own g.0.0 s g.0.1, g.0.0), g.1)) d e

pub scopes_fail : (total : Result (EntryMap × List ℕ) SpellingFault) (s : EntryMap) (n : ℕ) (last : Option Scope) (bytes : List ℕ) (e : DecodeFault) → 0 < n → AreScopesLeft total s n last bytes → Fails e (scope_taken last s bytes) → Fails e total
scopes_fail total s n last bytes e some is h = none_made group_read (λ g. Some g.0) with_scopes with_group groups_grow total s n last bytes e some is (group_failed last s bytes e h)

pub scopes_end : (total : Result (EntryMap × List ℕ) SpellingFault) (s : EntryMap) (n : ℕ) (last : Option Scope) (bytes : List ℕ) → n ≡ 0 → AreScopesLeft total s n last bytes → total ≡ Ok (s, bytes)
scopes_end = all_made group_read (λ g. Some g.0) with_scopes with_group groups_grow (λ s. refl)

abbrev into_store : Result (List Scoped × List ℕ) SpellingFault → Result (EntryMap × List ℕ) SpellingFault
into_store r = r >>= λ gs. Ok (with_scopes finmap.empty gs.0, gs.1)

pub scopes_begin : (bytes inner : List ℕ) (count n : ℕ) → n ≡ count → number_at bytes ≡ Ok (count, inner) → (s : EntryMap) → s ≡ finmap.empty → AreScopesLeft (scopes_taken bytes) s n None inner
unfolding scopes_taken chained_at
scopes_begin bytes inner count n all e s none =
    ap into_store (list_chained scope_cmp scope_at (group_at path_cmp path_at entry_at) bytes)
    ∙ ap (λ (r : Result (ℕ × List ℕ) SpellingFault). into_store (r >>= λ n. chain_at group_read (λ g. Some g.0) n.0 None n.1)) e
    ∙ ap (λ (k : ℕ). chain_at group_read (λ g. Some g.0) k None inner >>= λ x. Ok (with_scopes finmap.empty x.0, x.1)) (sym all)
    ∙ ap (λ (t : EntryMap). chain_at group_read (λ g. Some g.0) n None inner >>= λ x. Ok (with_scopes t x.0, x.1)) (sym none)

pub scopes_begin_not : (bytes : List ℕ) (e : DecodeFault) → Fails e (number_at bytes) → Fails e (scopes_taken bytes)
unfolding scopes_taken chained_at
scopes_begin_not bytes decode.Memory e = tt
scopes_begin_not bytes (decode.Fault d) e =
    ap into_store (list_chained scope_cmp scope_at (group_at path_cmp path_at entry_at) bytes)
    ∙ ap (λ (r : Result (ℕ × List ℕ) SpellingFault). into_store (r >>= λ n. chain_at group_read (λ g. Some g.0) n.0 None n.1)) e

-- ---- a piece

-- edits that are joined in, one after another, are their sum
pub joined_in : (s : EntryMap) (es : List Edit) → fold with_edit s es ≡ join s (sum_of es)
joined_in s [] = sym (join-nothing s)
joined_in s (e ∷ es) =
    joined_in (with_edit s e) es
    ∙ ap (λ (t : EntryMap). join t (sum_of es)) (with_edit-join s e)
    ∙ join_assoc s (sum_of (e ∷ [])) (sum_of es)
    ∙ ap (join s) (sym (sum_of-append (e ∷ []) es))

all_taken : (gs : List Scoped) → AreScoped gs → with_scopes finmap.empty gs ≡ finmap.from_sorted {R = place_cmp} (flattened gs)
all_taken gs are =
    let es = flattened gs in
    let sum : with_scopes finmap.empty gs ≡ sum_of (map edit_of es) = joined_in finmap.empty (map edit_of es) ∙ join_comm finmap.empty (sum_of (map edit_of es)) ∙ join-nothing (sum_of (map edit_of es)) in
    sum
    ∙ finmap.same_entries_map (sum_of (map edit_of es)) (finmap.from_sorted {R = place_cmp} es)
    (entries_of_sum es (flattened_sorted gs are) ∙ sym (finmap.entries-from_sorted place_cmp es (to_T _ (flattened_sorted gs are))))

pub piece_taken : (bytes : List ℕ) → IsBytes bytes → scopes_taken bytes ≡ piece_at bytes
unfolding scopes_taken piece_at
piece_taken bytes fits = by (list_at scope_cmp scope_at (group_at path_cmp path_at entry_at) bytes) refl
  where
    by : (r : Result (List Scoped × List ℕ) SpellingFault) → list_at scope_cmp scope_at (group_at path_cmp path_at entry_at) bytes ≡ r → into_store r ≡ (r >>= λ gs. Ok (finmap.from_sorted {R = place_cmp} (flattened gs.0), gs.1))
    by (Ok gs) e = ap (λ (s : EntryMap). Ok (s, gs.1)) (all_taken gs.0 (scopes_field.takes bytes gs fits e).1)
    by (Err d) e = refl
