-- The list of all entries, and what is held.
use Rattle.std.proofs.Common.{◌∷◌, ◌≡◌, ◌⊎◌}
use Rattle.path_maps.proofs.Prelude.{[], all_held, all_listed, all_sorted, AllKeys, ap, AreRanks, AreScopes, Bool, cond, entries-held, Entry, EntryMap, eq_by_cmp, false, find, flat, HasWellFormedPaths, in_scope, inl, inr, is_eq, IsKept, IsPath, IsSome, IsTotalOrder, List, listed, listed_sorted, Option, Ordering, path_cmp, path_cmp_total, PathParts, place_cmp, place_cmp_total, placed, PlaceParts, RankMap, refl, Scope, ScopeMap, Some, subst, sym, tied_itself, to_T, true, ℕ, ◌∙◌}
use Rattle.path_maps.proofs.LeftAfter.{back_keys, prefix_keys}
use Rattle.std.specs.FinMap as finmap

-- What holds of every key at which something is found holds of all keys of the list.
module _ {K E : Type 0} (R : K → K → Ordering) (o : IsTotalOrder R) where
  abbrev IsKeyOf : K → List (K × E) → Type 0
  IsKeyOf q [] = ⊥
  IsKeyOf q (e ∷ es) = (q ≡ e.0) ⊎ IsKeyOf q es

  found_by : (q : K) (e : K × E) (es : List (K × E)) (b : Bool) → eq_by_cmp R q e.0 ≡ b → (q ≡ e.0) ⊎ IsSome (find R q es) → IsSome (cond b (Some e.1) (find R q es))
  found_by q e es true t h = refl
  found_by q e es false t (inl is) = let wrong = sym (ap (λ (p : K). eq_by_cmp R q p) (sym is) ∙ ap is_eq (tied_itself o q)) ∙ t in cc (wrong)
  found_by q e es false t (inr is) = is

  found_in : (q : K) (es : List (K × E)) → IsKeyOf q es → IsSome (find R q es)
  found_in q [] h = absurd h
  found_in q (e ∷ es) (inl is) = found_by q e es (eq_by_cmp R q e.0) refl (inl is)
  found_in q (e ∷ es) (inr is) = found_by q e es (eq_by_cmp R q e.0) refl (inr (found_in q es is))

  all_of : (P : K → Type 0) (es : List (K × E)) → ((q : K) → IsKeyOf q es → P q) → AllKeys P es
  all_of P [] h = tt
  all_of P (e ∷ es) h = (h e.0 (inl refl), all_of P es (λ q is. h q (inr is)))

  all_found : (P : K → Type 0) (es : List (K × E)) → ((q : K) → IsSome (find R q es) → P q) → AllKeys P es
  all_found P es h = all_of P es (λ q is. h q (found_in q es is))

-- If entries are held only at valid paths, all listed entries have valid paths.
pub paths_listed : (m : RankMap) → AreRanks m → ((q : PathParts) → IsSome (finmap.get (flat m) q) → IsPath q) → AllKeys IsPath (listed m)
paths_listed m is paths =
    all_found path_cmp path_cmp_total IsPath (listed m)
    (λ q h. paths q (subst (λ (x : Option Entry). IsSome x) (sym (finmap.get-from_sorted path_cmp (listed m) q (to_T _ (listed_sorted m is)))) h))

-- The same for places, scope by scope.
paths_of_placed : (scope : Scope) (es : List (PathParts × Entry)) → AllKeys (λ q. IsPath q.path) (placed scope es) → AllKeys IsPath es
paths_of_placed scope [] h = tt
paths_of_placed scope (e ∷ es) h = (h.0, paths_of_placed scope es h.1)

by_scopes : (m : ScopeMap) → AllKeys (λ q. IsPath q.path) (all_listed m) → HasWellFormedPaths m
by_scopes [] h = tt
by_scopes (e ∷ es) h = (
  paths_of_placed e.0 (listed e.1) (prefix_keys (λ (q : PlaceParts). IsPath q.path) (in_scope e.0 e.1) (all_listed es) h),
  by_scopes es (back_keys (λ (q : PlaceParts). IsPath q.path) (in_scope e.0 e.1) (all_listed es) h),
)

pub places_well_formed : (m : ScopeMap) → AreScopes m → ((q : PlaceParts) → IsSome (finmap.get (all_held m) q) → IsPath q.path) → HasWellFormedPaths m
places_well_formed m is paths =
    by_scopes m (all_found place_cmp place_cmp_total (λ q. IsPath q.path) (all_listed m)
    (λ q h. paths q (subst (λ (x : Option Entry). IsSome x) (sym (finmap.get-from_sorted place_cmp (all_listed m) q (to_T _ (all_sorted m is)))) h)))

pub kept_well_formed : (m : ScopeMap) (len high : ℕ) → IsKept m len high → HasWellFormedPaths m
kept_well_formed m len high k = places_well_formed m k.scopes k.counted.paths

-- All entries, in place order.
pub all_entries : (m : ScopeMap) (s : EntryMap) → AreScopes m → all_held m ≡ s → all_listed m ≡ finmap.entries s
all_entries m s is e = sym (entries-held m is) ∙ ap (λ (t : EntryMap). finmap.entries t) e
