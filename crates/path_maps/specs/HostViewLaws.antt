-- What is seen at a path is what is held at its place, and the entries of a folder are those of its scope.
use Rattle.std.proofs.Common.{◌%◌, ◌&&◌, ◌++◌, ◌+◌, ◌/◌, ◌==◌, ◌∷◌, ◌≡◌, ◌≢◌}
use Rattle.path_maps.specs.Prelude.{[], and_from, and_parts, ap, arith, below_all, Bool, bytes_eq, cond, Entry, eq-eqb, eq_by_cmp, eqb-true, Equal, false, filter, find, find-where_key, from_T, Greater, is_eq, is_lt, is_sorted, is_sorted-where_key, IsTrue, Less, List, map, nat_cmp, nat_cmp_total, nat_tests, None, Option, option_and_then, option_map, Ordering, ordering_then, path_cmp, path_cmp-IsAntisymmetric, path_cmp_total, PathParts, refl, same_entries, slice_cmp, Some, sym, tied_itself, to_T, true, ℕ, ◌∙◌}
use Rattle.path_maps.specs.{FolderLaws.{number_test}, Folders.{is_in, path_at}, HostViews.{at_level, entries_own, HostViewMap, Own, view, viewed_fleets, viewed_own}, Scopes.{PathMap}, Sights.{after_entries, holding, path_after}, Spread.{AllKeys}, SpreadLaws.{find-after, find-prefix}}
use Rattle.std.specs.FinMap as finmap

abbrev Entries : Type 0
Entries = List (PathParts × Entry)

abbrev nowhere : Option Entry
nowhere = None

abbrev list_cmp : List ℕ → List ℕ → Ordering
list_cmp = slice_cmp nat_cmp

-- ---- numbers

even_test : (n r : ℕ) → (n == r + r) ≡ ((n % 2 == 0) && (n / 2 == r))
even_test n r = grind (arith, nat_tests)

odd_test : (n r : ℕ) → n % 2 ≢ 0 → (n == r + r + 1) ≡ (n / 2 == r)
odd_test n r h = grind (arith, nat_tests)

even_not : (n r : ℕ) → n % 2 ≡ 0 → (n == r + r + 1) ≡ false
even_not n r h = grind (arith, nat_tests)

is_odd : (n : ℕ) → (n % 2 == 0) ≡ false → n % 2 ≢ 0
is_odd n odd h = let wrong = sym (eq-eqb (n % 2) 0 h) ∙ odd in cc (wrong)

is_even : (n : ℕ) → (n % 2 == 0) ≡ true → n % 2 ≡ 0
is_even n even = eqb-true (n % 2) 0 even

-- ---- what is found among entries at their levels

then_test : (a b : Ordering) → is_eq (ordering_then a b) ≡ (is_eq a && is_eq b)
then_test Less b = refl
then_test Equal b = refl
then_test Greater b = refl

-- Two paths are equal if their ranks and their other parts are equal.
abbrev rest_cmp : PathParts → PathParts → Ordering
rest_cmp p q = ordering_then (list_cmp p.folder q.folder) (list_cmp p.name q.name)

path_test : (p q : PathParts) → eq_by_cmp path_cmp p q ≡ ((p.rank == q.rank) && is_eq (rest_cmp p q))
path_test p q = then_test (nat_cmp p.rank q.rank) _ ∙ ap (λ b. b && is_eq (rest_cmp p q)) (number_test p.rank q.rank)

-- A conditional on any test is `None` if both branches are.
nothing : (b : Bool) → nowhere ≡ cond b nowhere nowhere
nothing true = refl
nothing false = refl

nothing_twice : (a b : Bool) → nowhere ≡ cond a (cond b nowhere nowhere) nowhere
nothing_twice true b = nothing b
nothing_twice false b = refl

module _ (p : PathParts) where
  -- An entry at a level is found exactly at its own path with that level.
  met_own : (q : PathParts) → eq_by_cmp path_cmp p (path_at (q.rank + q.rank) q.folder q.name)
      ≡ ((p.rank % 2 == 0) && eq_by_cmp path_cmp (path_after p) q)
  met_own q =
      path_test p (path_at (q.rank + q.rank) q.folder q.name)
      ∙ ap (λ b. b && is_eq (rest_cmp p q)) (even_test p.rank q.rank)
      ∙ regroup (p.rank % 2 == 0) (p.rank / 2 == q.rank) (is_eq (rest_cmp p q))
      ∙ ap (λ b. (p.rank % 2 == 0) && b) (sym (path_test (path_after p) q))
    where
      regroup : (a b c : Bool) → ((a && b) && c) ≡ (a && (b && c))
      regroup true b c = refl
      regroup false b c = refl

  met_fleets : (q : PathParts) → (p.rank % 2 == 0) ≡ false
      → eq_by_cmp path_cmp p (path_at (q.rank + q.rank + 1) q.folder q.name) ≡ eq_by_cmp path_cmp (path_after p) q
  met_fleets q odd =
      path_test p (path_at (q.rank + q.rank + 1) q.folder q.name)
      ∙ ap (λ b. b && is_eq (rest_cmp p q)) (odd_test p.rank q.rank (is_odd p.rank odd))
      ∙ sym (path_test (path_after p) q)

  not_fleets : (q : PathParts) → (p.rank % 2 == 0) ≡ true → eq_by_cmp path_cmp p (path_at (q.rank + q.rank + 1) q.folder q.name) ≡ false
  not_fleets q even = path_test p (path_at (q.rank + q.rank + 1) q.folder q.name) ∙ ap (λ b. b && is_eq (rest_cmp p q)) (even_not p.rank q.rank (is_even p.rank even))

  find_own : (es : Entries) → find path_cmp p (map viewed_own es) ≡ cond (p.rank % 2 == 0) (find path_cmp (path_after p) es) None
  find_own [] = nothing (p.rank % 2 == 0)
  find_own (e ∷ es) = (λ i. cond (met_own e.0 i) (Some e.1) (find_own es i)) ∙ either (p.rank % 2 == 0) (eq_by_cmp path_cmp (path_after p) e.0)
    where
      either : (a b : Bool) → cond (a && b) (Some e.1) (cond a (find path_cmp (path_after p) es) None)
          ≡ cond a (cond b (Some e.1) (find path_cmp (path_after p) es)) None
      either true b = refl
      either false b = refl

  find_fleets : (p.rank % 2 == 0) ≡ false → (es : Entries) → find path_cmp p (map viewed_fleets es) ≡ find path_cmp (path_after p) es
  find_fleets odd [] = refl
  find_fleets odd (e ∷ es) = (λ i. cond (met_fleets e.0 odd i) (Some e.1) (find_fleets odd es i))

  no_fleets : (p.rank % 2 == 0) ≡ true → (es : Entries) → find path_cmp p (map viewed_fleets es) ≡ None
  no_fleets even [] = refl
  no_fleets even (e ∷ es) = (λ i. cond (not_fleets e.0 even i) (Some e.1) (no_fleets even es i))

  module _ (v : HostViewMap) where
    found_own : (own : Option Own)
        → find path_cmp p (entries_own own) ≡ cond (p.rank % 2 == 0)
        (option_and_then (λ held. finmap.get held (path_after p)) (option_map (λ (o : Own). o.held) own)) None
    found_own None = nothing (p.rank % 2 == 0)
    found_own (Some own) = find_own (finmap.entries own.held) ∙ ap (λ o. cond (p.rank % 2 == 0) o None) (sym (finmap.get-entries own.held (path_after p)))

    -- What is seen at a path is what is held for its level at the path within the scope.
    pub get-view : finmap.get (view v) p ≡ option_and_then (λ held. finmap.get held (path_after p)) (holding v p.rank)
    unfolding view
    get-view = finmap.get-from_entries path_cmp_total (entries_own v.own ++ map viewed_fleets (finmap.entries v.fleet)) p ∙ by (p.rank % 2 == 0) refl
      where
        by : (b : Bool) → (p.rank % 2 == 0) ≡ b
            → find path_cmp p (entries_own v.own ++ map viewed_fleets (finmap.entries v.fleet))
            ≡ option_and_then (λ held. finmap.get held (path_after p)) (holding v p.rank)
        by true t =
            find-prefix path_cmp p (entries_own v.own) (map viewed_fleets (finmap.entries v.fleet)) (no_fleets t (finmap.entries v.fleet))
            ∙ found_own v.own
            ∙ ap (λ b. cond b (option_and_then (λ held. finmap.get held (path_after p)) (option_map (λ (o : Own). o.held) v.own)) None) t
            ∙ ap (λ b. option_and_then (λ held. finmap.get held (path_after p)) (cond b (option_map (λ (o : Own). o.held) v.own) (Some v.fleet))) (sym t)
        by false t =
            find-after path_cmp p (entries_own v.own) (map viewed_fleets (finmap.entries v.fleet)) (found_own v.own ∙ ap (λ b. cond b (option_and_then (λ held. finmap.get held (path_after p)) (option_map (λ (o : Own). o.held) v.own)) None) t)
            ∙ find_fleets t (finmap.entries v.fleet)
            ∙ sym (finmap.get-entries v.fleet (path_after p))
            ∙ ap (λ b. option_and_then (λ held. finmap.get held (path_after p)) (cond b (option_map (λ (o : Own). o.held) v.own) (Some v.fleet))) (sym t)

-- ---- the entries of a folder

-- The entries held for a level, placed at the level.
abbrev held_entries : ℕ → List ℕ → Option PathMap → Entries
held_entries level folder holds = map (at_level level) (after_entries level folder holds)

-- Entries of one rank stay in order when placed at a level.
level_below : (level rank : ℕ) (p : PathParts) → p.rank ≡ rank → (es : Entries) → AllKeys (λ q. q.rank ≡ rank) es
    → IsTrue (below_all path_cmp p es)
    → IsTrue (below_all path_cmp (path_at level p.folder p.name) (map (at_level level) es))
level_below level rank p r [] of h = refl
level_below level rank p r (e ∷ es) of h =
    let parts = and_parts _ _ h in
    and_from _ _ (ap is_lt (same e.0 of.0) ∙ parts.0) (level_below level rank p r es of.1 parts.1)
  where
    same : (q : PathParts) → q.rank ≡ rank → path_cmp (path_at level p.folder p.name) (path_at level q.folder q.name) ≡ path_cmp p q
    same q s = ap (λ o. ordering_then o (ordering_then (list_cmp p.folder q.folder) (list_cmp p.name q.name))) (tied_itself nat_cmp_total level ∙ sym (ap (λ x. nat_cmp x q.rank) (r ∙ sym s) ∙ tied_itself nat_cmp_total q.rank))

level_sorted : (level rank : ℕ) (es : Entries) → AllKeys (λ q. q.rank ≡ rank) es → IsTrue (is_sorted path_cmp es)
    → IsTrue (is_sorted path_cmp (map (at_level level) es))
level_sorted level rank [] of h = refl
level_sorted level rank (e ∷ es) of h =
    let parts = and_parts _ _ h in
    and_from _ _ (level_below level rank e.0 of.0 es of.1 parts.0) (level_sorted level rank es of.1 parts.1)

module _ (level : ℕ) (folder : List ℕ) where
  in_rank : (es : Entries) → AllKeys (λ q. q.rank ≡ level / 2) (filter (λ p. is_in (level / 2) folder p.0) es)
  in_rank [] = tt
  in_rank (e ∷ es) = elim (is_in (level / 2) folder e.0) as (λ b. is_in (level / 2) folder e.0 ≡ b → AllKeys (λ q. q.rank ≡ level / 2) (cond b (e ∷ filter (λ p. is_in (level / 2) folder p.0) es) (filter (λ p. is_in (level / 2) folder p.0) es))) [
    | true ↦ λ t. (eqb-true e.0.rank (level / 2) (and_parts _ _ t).0, in_rank es)
    | false ↦ λ t. in_rank es
  ] refl

  -- They are of one rank.
  pub ranks_after : (holds : Option PathMap) → AllKeys (λ q. q.rank ≡ level / 2) (after_entries level folder holds)
  ranks_after None = tt
  ranks_after (Some held) = in_rank (finmap.entries held)

  module _ (p : PathParts) where
    one_more : (e : PathParts × Entry) (es : Entries) → e.0.rank ≡ level / 2 → (b : Bool) → (p.rank == level) ≡ b
        → find path_cmp p (map (at_level level) es) ≡ cond (p.rank == level) (find path_cmp (path_after p) es) None
        → find path_cmp p (map (at_level level) (e ∷ es)) ≡ cond (p.rank == level) (find path_cmp (path_after p) (e ∷ es)) None
    one_more e es of true t rest =
        let half : (p.rank / 2 == e.0.rank) ≡ true = eq-eqb (p.rank / 2) e.0.rank (ap (λ r. r / 2) (eqb-true p.rank level t) ∙ sym of) in
        let met : eq_by_cmp path_cmp p (path_at level e.0.folder e.0.name) ≡ eq_by_cmp path_cmp (path_after p) e.0 =
        path_test p (path_at level e.0.folder e.0.name) ∙ ap (λ b. b && is_eq (rest_cmp p e.0)) (t ∙ sym half) ∙ sym (path_test (path_after p) e.0) in
        let found : find path_cmp p (map (at_level level) es) ≡ find path_cmp (path_after p) es = rest ∙ ap (λ b. cond b (find path_cmp (path_after p) es) None) t in
        (λ i. cond (met i) (Some e.1) (found i)) ∙ ap (λ b. cond b (find path_cmp (path_after p) (e ∷ es)) None) (sym t)
    one_more e es of false t rest =
        let apart : eq_by_cmp path_cmp p (path_at level e.0.folder e.0.name) ≡ false = path_test p (path_at level e.0.folder e.0.name) ∙ ap (λ b. b && is_eq (rest_cmp p e.0)) t in
        let found : find path_cmp p (map (at_level level) es) ≡ None = rest ∙ ap (λ b. cond b (find path_cmp (path_after p) es) None) t in
        (λ i. cond (apart i) (Some e.1) (found i)) ∙ ap (λ b. cond b (find path_cmp (path_after p) (e ∷ es)) None) (sym t)

    at_its_level : (es : Entries) → AllKeys (λ q. q.rank ≡ level / 2) es
        → find path_cmp p (map (at_level level) es) ≡ cond (p.rank == level) (find path_cmp (path_after p) es) None
    at_its_level [] of = nothing (p.rank == level)
    at_its_level (e ∷ es) of = one_more e es of.0 (p.rank == level) refl (at_its_level es of.1)

  alike : (rank : ℕ) (q x : PathParts) → path_cmp q x ≡ Equal → is_in rank folder x ≡ is_in rank folder q
  alike rank q x e = ap (is_in rank folder) (sym (path_cmp-IsAntisymmetric q x e))

  passed : (rank : ℕ) (q : PathParts) (m : PathMap)
      → find path_cmp q (filter (λ p. is_in rank folder p.0) (finmap.entries m))
      ≡ cond (is_in rank folder q) (finmap.get m q) None
  passed rank q m = find-where_key path_cmp (is_in rank folder) q (alike rank q) (finmap.entries m) ∙ ap (λ o. cond (is_in rank folder q) o None) (sym (finmap.get-entries m q))

  module _ (v : HostViewMap) where
    found_there : (p : PathParts) (holds : Option PathMap)
        → find path_cmp p (held_entries level folder holds)
        ≡ cond (p.rank == level)
        (cond (is_in (level / 2) folder (path_after p))
        (option_and_then (λ held. finmap.get held (path_after p)) holds) None) None
    found_there p None = nothing_twice (p.rank == level) (is_in (level / 2) folder (path_after p))
    found_there p (Some held) =
        at_its_level p (filter (λ q. is_in (level / 2) folder q.0) (finmap.entries held)) (in_rank (finmap.entries held))
        ∙ ap (λ o. cond (p.rank == level) o None) (passed (level / 2) (path_after p) held)

    same_found : (p : PathParts) → find path_cmp p (filter (λ p. is_in level folder p.0) (finmap.entries (view v)))
        ≡ find path_cmp p (held_entries level folder (holding v level))
    same_found p = passed level p (view v) ∙ ap (λ o. cond (is_in level folder p) o None) (get-view p v) ∙ by (p.rank == level) refl ∙ sym (found_there p (holding v level))
      where
        by : (b : Bool) → (p.rank == level) ≡ b
            → cond (b && bytes_eq p.folder folder)
            (option_and_then (λ held. finmap.get held (path_after p)) (holding v p.rank)) None
            ≡ cond b (cond (is_in (level / 2) folder (path_after p)) (option_and_then (λ held. finmap.get held (path_after p)) (holding v level)) None) None
        by true t =
            let same = eqb-true p.rank level t in
            let half : (p.rank / 2 == level / 2) ≡ true = eq-eqb (p.rank / 2) (level / 2) (ap (λ r. r / 2) same) in
            ap (λ r. cond (bytes_eq p.folder folder) (option_and_then (λ held. finmap.get held (path_after p)) (holding v r)) None) same
            ∙ ap (λ b. cond (b && bytes_eq p.folder folder) (option_and_then (λ held. finmap.get held (path_after p)) (holding v level)) None) (sym half)
        by false t = refl

    sorted_there : (holds : Option PathMap) → IsTrue (is_sorted path_cmp (held_entries level folder holds))
    sorted_there None = refl
    sorted_there (Some held) = level_sorted level (level / 2) _ (in_rank (finmap.entries held)) (from_T _ (is_sorted-where_key path_cmp (is_in (level / 2) folder) (finmap.entries held) (finmap.entries_sorted held)))

    -- The entries of a folder are those held for the level, placed at the level.
    pub folder_viewed : map (at_level level) (after_entries level folder (holding v level))
        ≡ filter (λ p. is_in level folder p.0) (finmap.entries (view v))
    folder_viewed =
        same_entries path_cmp path_cmp_total path_cmp-IsAntisymmetric (held_entries level folder (holding v level)) (filter (λ p. is_in level folder p.0) (finmap.entries (view v)))
        (to_T _ (sorted_there (holding v level))) (is_sorted-where_key path_cmp (is_in level folder) (finmap.entries (view v)) (finmap.entries_sorted (view v)))
        (λ p. sym (same_found p))
