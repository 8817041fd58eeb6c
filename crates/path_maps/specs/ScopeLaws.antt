-- What a store holds in a scope.
use Rattle.std.proofs.Common.{◌&&◌, ◌∷◌, ◌≡◌}
use Rattle.path_maps.specs.Prelude.{[], and_from, and_parts, ap, below_all, cond, Entry, EntryMap, eq_by_cmp, Equal, false, filter, find, from_T, Greater, is_eq, is_equal, is_lt, is_sorted, IsTrue, Less, List, map, Ordering, ordering_then, path_cmp, PathParts, place_cmp, PlaceParts, refl, Scope, scope_cmp, scope_cmp-IsAntisymmetric, Some, subst, sym, to_T, true, ℕ, ◌∙◌}
use Rattle.path_maps.specs.{Folders.{is_in, is_within}, PlaceMapLaws.{same_scope}, PlaceMaps.{placed}, Scopes.{entries_of, scope_of, within}}
use Rattle.std.specs.FinMap as finmap

abbrev Entries : Type 0
Entries = List (PlaceParts × Entry)

module _ (scope : Scope) where
  -- A place of the scope is determined by its path.
  is_of : (q : PlaceParts) → eq_by_cmp scope_cmp scope q.scope ≡ true → q ≡ within scope q.path
  is_of q t = ap (λ (s : Scope). within s q.path) (sym (scope_cmp-IsAntisymmetric scope q.scope (is_equal _ t)))

  -- ---- its entries are in ascending order

  below_of : (p : PathParts) (es : Entries) → IsTrue (below_all place_cmp (within scope p) es)
      → IsTrue (below_all path_cmp p (entries_of scope es))
  below_of p [] h = refl
  below_of p (e ∷ es) h =
      let parts = and_parts _ _ h in
      elim (eq_by_cmp scope_cmp scope e.0.scope) as (λ b. eq_by_cmp scope_cmp scope e.0.scope ≡ b → IsTrue (below_all path_cmp p (cond b ((e.0.path, e.1) ∷ entries_of scope es) (entries_of scope es)))) [
        | true ↦ λ t. and_from _ _ (ap is_lt (sym (same_scope scope p e.0.path) ∙ ap (place_cmp (within scope p)) (sym (is_of e.0 t))) ∙ parts.0) (below_of p es parts.1)
        | false ↦ λ t. below_of p es parts.1
      ] refl

  sorted_of : (es : Entries) → IsTrue (is_sorted place_cmp es) → IsTrue (is_sorted path_cmp (entries_of scope es))
  sorted_of [] h = refl
  sorted_of (e ∷ es) h =
      let parts = and_parts _ _ h in
      elim (eq_by_cmp scope_cmp scope e.0.scope) as (λ b. eq_by_cmp scope_cmp scope e.0.scope ≡ b → IsTrue (is_sorted path_cmp (cond b ((e.0.path, e.1) ∷ entries_of scope es) (entries_of scope es)))) [
        | true ↦ λ t. and_from _ _ (below_of e.0.path es (subst (λ (q : PlaceParts). IsTrue (below_all place_cmp q es)) (is_of e.0 t) parts.0)) (sorted_of es parts.1)
        | false ↦ λ t. sorted_of es parts.1
      ] refl

  -- ---- what is found among them

  unlike : (r q : Ordering) → is_eq r ≡ false → is_eq (ordering_then r q) ≡ false
  unlike Less q h = refl
  unlike Equal q h = cc (h)
  unlike Greater q h = refl

  find-entries_of : (p : PathParts) (es : Entries) → find path_cmp p (entries_of scope es) ≡ find place_cmp (within scope p) es
  find-entries_of p [] = refl
  find-entries_of p (e ∷ es) =
      elim (eq_by_cmp scope_cmp scope e.0.scope) as (λ b. eq_by_cmp scope_cmp scope e.0.scope ≡ b → find path_cmp p (cond b ((e.0.path, e.1) ∷ entries_of scope es) (entries_of scope es)) ≡ find place_cmp (within scope p) (e ∷ es)) [
        | true ↦ λ t. (λ i. cond (is_eq (ordering_then (sym (is_equal _ t) i) (path_cmp p e.0.path))) (Some e.1) (find-entries_of p es i))
        | false ↦ λ t. find-entries_of p es ∙ ap (λ b. cond b (Some e.1) (find place_cmp (within scope p) es)) (sym (unlike (scope_cmp scope e.0.scope) (path_cmp p e.0.path) t))
      ] refl

  module _ (s : EntryMap) where
    ascends : IsTrue (is_sorted path_cmp (entries_of scope (finmap.entries s)))
    ascends = sorted_of (finmap.entries s) (from_T _ (finmap.entries_sorted s))

    -- At each path it has what the store holds at the path's place.
    pub get-scope_of : (p : PathParts) → finmap.get (scope_of s scope) p ≡ finmap.get s (within scope p)
    unfolding scope_of
    get-scope_of p = finmap.get-from_sorted path_cmp (entries_of scope (finmap.entries s)) p (to_T _ ascends) ∙ find-entries_of p (finmap.entries s) ∙ sym (finmap.get-entries s (within scope p))

    entries-scope_of : finmap.entries (scope_of s scope) ≡ entries_of scope (finmap.entries s)
    unfolding scope_of
    entries-scope_of = finmap.entries-from_sorted path_cmp (entries_of scope (finmap.entries s)) (to_T _ ascends)

  -- ---- the places of a folder

  module _ (rank : ℕ) (folder : List ℕ) where
    folder_of : (es : Entries)
        → map (λ p. p.0) (placed scope (filter (λ p. is_in rank folder p.0) (entries_of scope es)))
        ≡ filter (is_within scope rank folder) (map (λ p. p.0) es)
    folder_of [] = refl
    folder_of (e ∷ es) =
        let rest : List PlaceParts = map (λ p. p.0) (placed scope (filter (λ p. is_in rank folder p.0) (entries_of scope es))) in
        elim (eq_by_cmp scope_cmp scope e.0.scope) as (λ b. eq_by_cmp scope_cmp scope e.0.scope ≡ b → map (λ p. p.0) (placed scope (filter (λ p. is_in rank folder p.0) (cond b ((e.0.path, e.1) ∷ entries_of scope es) (entries_of scope es)))) ≡ cond (b && is_in rank folder e.0.path) (e.0 ∷ filter (is_within scope rank folder) (map (λ p. p.0) es)) (filter (is_within scope rank folder) (map (λ p. p.0) es))) [
          | true ↦ λ t.
              elim (is_in rank folder e.0.path) as (λ c. map (λ p. p.0) (placed scope (cond c ((e.0.path, e.1) ∷ filter (λ p. is_in rank folder p.0) (entries_of scope es)) (filter (λ p. is_in rank folder p.0) (entries_of scope es)))) ≡ cond c (e.0 ∷ filter (is_within scope rank folder) (map (λ p. p.0) es)) (filter (is_within scope rank folder) (map (λ p. p.0) es))) [
                | true ↦ (λ i. sym (is_of e.0 t) i ∷ folder_of es i)
                | false ↦ folder_of es
              ]
          | false ↦ λ t. folder_of es
        ] refl

    -- The places of a folder are the places of what the scope has in the folder.
    pub places_of_folder : (s : EntryMap)
        → map (λ p. p.0) (placed scope (filter (λ p. is_in rank folder p.0) (finmap.entries (scope_of s scope))))
        ≡ filter (is_within scope rank folder) (finmap.keys s)
    places_of_folder s =
        ap (λ (es : List (PathParts × Entry)). map (λ p. p.0) (placed scope (filter (λ p. is_in rank folder p.0) es))) (entries-scope_of s) ∙ folder_of (finmap.entries s)
