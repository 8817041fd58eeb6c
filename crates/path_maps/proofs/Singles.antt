-- A store of one entry consists of maps with one pair each.
use Rattle.std.proofs.Common.{◌++◌, ◌∷◌, ◌≡◌, ◌≢◌, ◌≤◌}
use Rattle.path_maps.proofs.Prelude.{[], all_held, AllHeld, ap, AreFolders, AreNames, AreRanks, AreScopes, arith, at_name, content_cmp, entries-held, EntryMap, FolderMap, FoldersBelow, in_folder, in_rank, in_scope, IsLeast, IsSinglePair, IsUpTo, length, length-append, length-map, List, listed, NameMap, NamesBelow, RankMap, RanksBelow, refl, Scope, ScopeMap, spread, sym, ℕ, ◌∙◌}
use Rattle.path_maps.proofs.LeftAfter.{at_name_some, in_folder_some, in_rank_some, in_scope_some}
use Rattle.std.specs.FinMap as finmap

some_length : {A : Type 0} (xs : List A) → xs ≢ [] → 1 ≤ length xs
some_length [] h = absurd (h refl)
some_length (x ∷ xs) h = omega arith

-- Each pair expands to at least one item. If all of them expand to one item in total, there is just one pair, and it
-- expands to one.
single_spread : {K V A E : Type 0} (part : K → V → List (A × E)) (below : V → V → Type 0) (valid is_single : V → Type 0) →
    ((k : K) (v : V) → ¬ IsLeast below v → valid v → part k v ≢ []) → ((k : K) (v : V) → valid v → length (part k v) ≡ 1 → is_single v) →
    (es : List (K × V)) → AllHeld below valid es → length (spread part es) ≡ 1 → IsSinglePair is_single es
single_spread part below valid is_single some one [] h n = absurd (omega (arith, n))
single_spread part below valid is_single some one (e ∷ []) h n =
    let all = length-append (part e.0 e.1) [] in
    one e.0 e.1 h.0.well_formed (omega (arith, n, all))
single_spread part below valid is_single some one (e ∷ f ∷ es) h n =
    let all = length-append (part e.0 e.1) (part f.0 f.1 ++ spread part es) in
    let rest = length-append (part f.0 f.1) (spread part es) in
    let first = some_length (part e.0 e.1) (some e.0 e.1 h.0.not_least h.0.well_formed) in
    let second = some_length (part f.0 f.1) (some f.0 f.1 h.1.0.not_least h.1.0.well_formed) in
    absurd (omega (arith, n, all, rest, first, second))

abbrev IsSingleName : NameMap → Type 0
IsSingleName = IsSinglePair (λ _. Unit {0})

single_names : (rank : ℕ) (folder : List ℕ) (names : NameMap) → AreNames names → length (in_folder rank folder names) ≡ 1 → IsSingleName names
single_names rank folder names is =
    single_spread (at_name rank folder) (IsUpTo content_cmp) (λ _. Unit {0}) (λ _. Unit {0}) (λ k v n _. at_name_some rank folder k v n) (λ k v _ _. tt) names is.held

single_folders : (rank : ℕ) (folders : FolderMap) → AreFolders folders → length (in_rank rank folders) ≡ 1 → IsSinglePair IsSingleName folders
single_folders rank folders is =
    single_spread (in_folder rank) NamesBelow AreNames IsSingleName (in_folder_some rank) (single_names rank) folders is.held

single_ranks : (ranks : RankMap) → AreRanks ranks → length (listed ranks) ≡ 1 → IsSinglePair (IsSinglePair IsSingleName) ranks
single_ranks ranks is =
    single_spread in_rank FoldersBelow AreFolders (IsSinglePair IsSingleName) in_rank_some single_folders ranks is.held

single_placed : (scope : Scope) (ranks : RankMap) → AreRanks ranks → length (in_scope scope ranks) ≡ 1 → IsSinglePair (IsSinglePair IsSingleName) ranks
single_placed scope ranks is one = single_ranks ranks is (sym (length-map (listed ranks) _) ∙ one)

-- The maps of a store of one entry.
pub single_scopes : (m : ScopeMap) (s : EntryMap) → all_held m ≡ s → AreScopes m → finmap.len s ≡ 1 → IsSinglePair (IsSinglePair (IsSinglePair IsSingleName)) m
single_scopes m s e is one =
    single_spread in_scope RanksBelow AreRanks (IsSinglePair (IsSinglePair IsSingleName)) in_scope_some single_placed m is.held
    (ap length (sym (entries-held m is)) ∙ sym (finmap.len-entries (all_held m)) ∙ ap (λ (t : EntryMap). finmap.len t) e ∙ one)
