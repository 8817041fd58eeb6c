-- What nested look-ups find.
use Rattle.std.proofs.Common.{◌+◌, ◌↔◌, ◌∷◌, ◌≡◌, ◌≢◌, ◌≤◌}
use Rattle.path_maps.proofs.Prelude.{[], all_held, AllHeld, AllKeys, and_parts, ap, AreFolders, AreNames, AreRanks, AreScopes, AreWellFormed, arith, At, below_all, Bool, bytes_cmp, cond, Content, content_cmp, entries-flat, Entry, EntryMap, eq_by_cmp, false, filter, find, flat, folder-listed, FolderMap, FoldersBelow, found_well_formed, from_bool, get-flat, get-held, in_folder, is_in, is_none_or, is_none_or-within, is_some, is_sorted, IsLeast, IsPath, IsSome, IsTrue, IsUpTo, List, listed, look_up, look_up_place, NameMap, names_in, NamesBelow, nat_cmp, Never, never_least, None, Option, or_empty, PathMap, PathParts, PlaceParts, RankMap, ranks_of, refl, scope_cmp, scope_well_formed, ScopeMap, Some, some_keys, subst, sym, true, Versioned, written, written_at, ℕ, ◌∙◌}
use Rattle.path_maps.proofs.Listed.{paths_listed}
use Rattle.std.specs.FinMap as finmap

module _ (m : RankMap) (q : PathParts) where
  pub no_folder : find bytes_cmp q.folder (or_empty (find nat_cmp q.rank m)) ≡ None → look_up m q ≡ None
  no_folder e = ap (λ (x : Option NameMap). written_at (find bytes_cmp q.name (or_empty x))) e

  module _ (names : NameMap) (at_folder : find bytes_cmp q.folder (or_empty (find nat_cmp q.rank m)) ≡ Some names) where
    of_folder : look_up m q ≡ written_at (find bytes_cmp q.name names)
    of_folder = ap (λ (x : Option NameMap). written_at (find bytes_cmp q.name (or_empty x))) at_folder

    pub no_name : find bytes_cmp q.name names ≡ None → look_up m q ≡ None
    no_name e = of_folder ∙ ap written_at e

    pub at_name_of : (v : Versioned Content) → find bytes_cmp q.name names ≡ Some v → look_up m q ≡ written v
    at_name_of v e = of_folder ∙ ap written_at e

-- What the look-ups find is held.
pub viewed_is : (m : RankMap) → AreRanks m → (v : PathMap) → flat m ≡ v → (q : PathParts) (x : Option Entry) → look_up m q ≡ x → x ≡ finmap.get v q
viewed_is m is v e q x h = sym h ∙ sym (get-flat m is q) ∙ ap (λ (t : PathMap). finmap.get t q) e

-- A value that is held was written.
was_written : (v : Versioned Content) → ¬ IsLeast (IsUpTo content_cmp) v → IsSome (written v)
was_written Never left = absurd (left (never_least content_cmp))
was_written (At x) left = refl

name_written : (k : List ℕ) (names : NameMap) → AllHeld (IsUpTo content_cmp) (λ _. Unit {0}) names → IsSome (find bytes_cmp k names) → IsSome (written_at (find bytes_cmp k names))
name_written k [] held some = some
name_written k (n ∷ ns) held some =
    elim (eq_by_cmp bytes_cmp k n.0) as (λ b. IsSome (cond b (Some n.1) (find bytes_cmp k ns)) → IsSome (written_at (cond b (Some n.1) (find bytes_cmp k ns)))) [
      | true ↦ λ _. was_written n.1 held.0.not_least
      | false ↦ λ found. name_written k ns held.1 found
    ] some

-- The names of a folder are in order, and each of them was written.
names_well_formed : (m : RankMap) → AreRanks m → (rank : ℕ) (folder : List ℕ) → AreNames (names_in m rank folder)
names_well_formed m is rank folder = by_rank (find nat_cmp rank m) refl
  where
    no_pairs : AreNames []
    no_pairs = record { sorted = refl; held = tt }

    by_folder : (folders : FolderMap) → AreFolders folders → (x : Option NameMap) → find bytes_cmp folder folders ≡ x → AreNames (or_empty x)
    by_folder folders are None e = no_pairs
    by_folder folders are (Some names) e = found_well_formed bytes_cmp NamesBelow AreNames folder folders are.held names e

    by_rank : (x : Option FolderMap) → find nat_cmp rank m ≡ x → AreNames (or_empty (find bytes_cmp folder (or_empty x)))
    by_rank None e = no_pairs
    by_rank (Some folders) e = by_folder folders (found_well_formed nat_cmp FoldersBelow AreFolders rank m is.held folders e) (find bytes_cmp folder folders) refl

-- ---- at places

-- What the look-ups find is held.
pub held_is : (m : ScopeMap) → AreScopes m → (s : EntryMap) → all_held m ≡ s → (q : PlaceParts) (x : Option Entry) → look_up_place m q ≡ x → x ≡ finmap.get s q
held_is m is s e q x h = sym h ∙ sym (get-held m is q) ∙ ap (λ (t : EntryMap). finmap.get t q) e

there : (x : Option (Versioned Content)) → IsSome (written_at x) → IsSome x
there None h = h
there (Some v) h = refl

-- If something is held, each look-up finds something.
pub held_there : (m : ScopeMap) → AreScopes m → (s : EntryMap) → all_held m ≡ s → (q : PlaceParts) → IsSome (finmap.get s q) → IsSome (find bytes_cmp q.path.name (names_in (ranks_of m q.scope) q.path.rank q.path.folder))
held_there m is s e q h = there _ (subst (λ (x : Option Entry). IsSome x) (sym (held_is m is s e q _ refl)) h)

-- If each look-up finds something, something is held.
pub there_held : (m : ScopeMap) → AreScopes m → (s : EntryMap) → all_held m ≡ s → (q : PlaceParts) → IsSome (find bytes_cmp q.path.name (names_in (ranks_of m q.scope) q.path.rank q.path.folder)) → IsSome (finmap.get s q)
there_held m is s e q h =
    subst (λ (x : Option Entry). IsSome x) (held_is m is s e q _ refl)
    (name_written q.path.name (names_in (ranks_of m q.scope) q.path.rank q.path.folder) (names_well_formed (ranks_of m q.scope) (scope_well_formed m is q.scope) q.path.rank q.path.folder).held h)

-- If what was joined isn't the least value, the returned flag says exactly whether it was new.
pub added_new : {P : Type 0} (added new : Bool) → ¬ P → IsTrue added ↔ (IsTrue new × ¬ P) → added ≡ new
added_new true true left h = refl
added_new true false left h = let wrong = (h.0 refl).0 in cc (wrong)
added_new false true left h = let wrong = h.1 (refl, left) in cc (wrong)
added_new false false left h = refl

module _ (m : ScopeMap) (is : AreScopes m) (s : EntryMap) (e : all_held m ≡ s) (q : PlaceParts) where
  abbrev found : Option (Versioned Content)
  found = find bytes_cmp q.path.name (names_in (ranks_of m q.scope) q.path.rank q.path.folder)

  -- Nothing is held where a look-up finds nothing.
  absent_there : found ≡ None → finmap.get s q ≡ None
  absent_there none = sym (held_is m is s e q None (ap written_at none))

  -- Whether one of the look-ups finds nothing.
  abbrev is_new_name : NameMap → Bool
  is_new_name names = is_none_or (λ _. false) (find bytes_cmp q.path.name names)

  abbrev is_new_folder : FolderMap → Bool
  is_new_folder folders = is_none_or is_new_name (find bytes_cmp q.path.folder folders)

  abbrev is_new_rank : RankMap → Bool
  is_new_rank ranks = is_none_or is_new_folder (find nat_cmp q.path.rank ranks)

  abbrev pub is_new : Bool
  is_new = is_none_or is_new_rank (find scope_cmp q.scope m)

  new_is : is_new ≡ is_none_or (λ _. false) found
  new_is =
      is_none_or-within nat_cmp q.path.rank is_new_folder (find scope_cmp q.scope m)
      ∙ is_none_or-within bytes_cmp q.path.folder is_new_name (find nat_cmp q.path.rank (ranks_of m q.scope))
      ∙ is_none_or-within bytes_cmp q.path.name (λ _. false) (find bytes_cmp q.path.folder (or_empty (find nat_cmp q.path.rank (ranks_of m q.scope))))

  -- None of them does where something is held.
  pub held_not_new : IsSome (finmap.get s q) → is_new ≡ false
  held_not_new some = new_is ∙ by found (held_there m is s e q some)
    where
      by : (o : Option (Versioned Content)) → IsSome o → is_none_or (λ _. false) o ≡ false
      by None h = cc (h)
      by (Some v) h = refl

  -- The number of places held after this one is joined, whether it is new or not.
  pub counted_with : (added : Bool) → added ≡ is_new → finmap.len s + from_bool added ≡ cond (finmap.contains_key s q) (finmap.len s) (finmap.len s + 1)
  counted_with added a = ap (λ b. finmap.len s + from_bool b) (a ∙ new_is) ∙ by found refl
    where
      same : finmap.len s + 0 ≡ finmap.len s
      same = omega arith

      by : (o : Option (Versioned Content)) → found ≡ o → finmap.len s + from_bool (is_none_or (λ _. false) o) ≡ cond (finmap.contains_key s q) (finmap.len s) (finmap.len s + 1)
      by None t = let none = absent_there t in ap (λ (o : Option Entry). cond (is_some o) (finmap.len s) (finmap.len s + 1)) (sym none)
      by (Some v) t = let some = there_held m is s e q (subst (λ (o : Option (Versioned Content)). IsSome o) (sym t) refl) in same ∙ ap (λ b. cond b (finmap.len s) (finmap.len s + 1)) (sym some)

  -- This number stays within the limit, if it does for a new place.
  pub fits_with : (most : ℕ) (added : Bool) → added ≡ is_new → finmap.len s ≤ most → (finmap.get s q ≡ None → finmap.len s + 1 ≤ most) → finmap.len s + from_bool added ≤ most
  fits_with most added a now room = subst (λ b. finmap.len s + from_bool b ≤ most) (sym (a ∙ new_is)) (by found refl)
    where
      by : (o : Option (Versioned Content)) → found ≡ o → finmap.len s + from_bool (is_none_or (λ _. false) o) ≤ most
      by None t = room (absent_there t)
      by (Some v) t = omega (arith, now)

-- ---- in one scope

-- A path at which the look-ups find something is valid.
pub well_formed_there : (m : RankMap) → AreWellFormed m → (q : PathParts) (x : Entry) → look_up m q ≡ Some x → IsPath q
well_formed_there m k q x h = k.paths q (subst (λ (o : Option Entry). IsSome o) (sym (get-flat m k.ranks q ∙ h)) refl)

module _ (m : RankMap) (rank : ℕ) (folder : List ℕ) where
  -- The entries of a folder, in path order.
  pub folder_entries : (v : PathMap) → AreRanks m → flat m ≡ v → in_folder rank folder (names_in m rank folder) ≡ filter (λ p. is_in rank folder p.0) (finmap.entries v)
  folder_entries v are e = sym (folder-listed rank folder m are) ∙ ap (λ es. filter (λ p. is_in rank folder p.0) es) (sym (entries-flat m are) ∙ ap (λ (t : PathMap). finmap.entries t) e)

  pub folder_paths : AreWellFormed m → AllKeys IsPath (in_folder rank folder (names_in m rank folder))
  folder_paths k = subst (AllKeys IsPath) (folder-listed rank folder m k.ranks) (some_keys (is_in rank folder) IsPath (listed m) (paths_listed m k.ranks k.paths))

-- ---- the empty key

above_unnamed : {V : Type 0} (b : ℕ) (bytes : List ℕ) (es : List (List ℕ × V)) → IsTrue (below_all bytes_cmp (b ∷ bytes) es) → find bytes_cmp [] es ≡ None
above_unnamed b bytes [] h = refl
above_unnamed b bytes (([], v) ∷ es) h = cc (h)
above_unnamed b bytes ((c ∷ cs, v) ∷ es) h = above_unnamed b bytes es (and_parts _ _ h).1

-- The empty key is at the first pair or nowhere.
pub unnamed_nowhere : {V : Type 0} (first : List ℕ × V) (rest : List (List ℕ × V)) → IsTrue (is_sorted bytes_cmp (first ∷ rest)) → first.0 ≢ [] → find bytes_cmp [] (first ∷ rest) ≡ None
unnamed_nowhere ([], v) rest s named = absurd (named refl)
unnamed_nowhere (b ∷ bytes, v) rest s named = above_unnamed b bytes rest (and_parts _ _ s).0
