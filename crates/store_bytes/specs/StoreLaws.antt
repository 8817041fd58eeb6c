-- The entries of all scopes are in place order.
use Rattle.std.proofs.Common.{◌≡◌, ◌∷◌, ◌&&◌, ◌∙◌, [], List, IsTrue, refl, sym, ap, subst}
use Rattle.std.specs.FinMap.{is_sorted}
use Rattle.std.specs.FinMap.Entries.{below_all}
use Rattle.std.specs.List.{AllByRecursion}
use Rattle.std.specs.Ordering.{is_lt, ordering_then}
use Rattle.std.specs.declared.cmp.Ordering.TheVariants.{Less}
use Rattle.load_path.specs.Paths.{PathParts, IsPath, path_cmp}
use Rattle.load_places.specs.Places.{place_cmp, PlaceParts, scope_cmp}
use Rattle.load_places.specs.declared.places.Scope.{Scope}
use Rattle.edit_sums.specs.Entries.{Entry}
use Rattle.path_maps.specs.PlaceMaps.{placed}
use Rattle.path_maps.specs.PlaceMapLaws.{IsInScope, of_scope, same_scope}
use Rattle.path_maps.specs.Scopes.{within}
use Rattle.path_maps.specs.Spread.{AllValues}
use Rattle.path_maps.specs.SpreadLaws.{sorted-spread}
use Rattle.store_bytes.specs.ListSpelling.{AreGroup}
use Rattle.store_bytes.specs.Spelling.{IsEntry}
use Rattle.store_bytes.specs.Stores.{AreScoped, flattened, Scoped}

-- ---- one scope

below_within : (s : Scope) (p : PathParts) (es : List (PathParts × Entry))
    → below_all place_cmp (within s p) (placed s es) ≡ below_all path_cmp p es
below_within s p [] = refl
below_within s p (e ∷ es) = (λ i. is_lt (same_scope s p e.0 i) && below_within s p es i)

sorted_within : (s : Scope) (es : List (PathParts × Entry)) → is_sorted place_cmp (placed s es) ≡ is_sorted path_cmp es
sorted_within s [] = refl
sorted_within s (e ∷ es) = (λ i. below_within s e.0 es i && sorted_within s es i)

by_scopes : (k l : Scope) (a b : PlaceParts) → scope_cmp k l ≡ Less → IsInScope k a → IsInScope l b → place_cmp a b ≡ Less
by_scopes k l a b less p q =
    (λ i. ordering_then (scope_cmp (p i) (q i)) (path_cmp a.path b.path)) ∙ ap (λ r. ordering_then r (path_cmp a.path b.path)) less

-- ---- all scopes

abbrev IsGroup : Scoped → Type 0
IsGroup g = AreGroup path_cmp IsPath IsEntry g.1

groups_of : (P : Scope → Type 0) (gs : List Scoped) → AllByRecursion (λ g. P g.0 × IsGroup g) gs
    → AllValues (λ es. IsTrue (is_sorted path_cmp es)) gs
groups_of P [] h = tt
groups_of P (g ∷ gs) h = (h.0.1.pairs.ascending, groups_of P gs h.1)

-- The entries of all scopes are in place order.
pub flattened_sorted : (gs : List Scoped) → AreScoped gs → IsTrue (is_sorted place_cmp (flattened gs))
flattened_sorted gs are =
    sorted-spread scope_cmp place_cmp IsInScope placed (λ k v. of_scope k v) (λ es. IsTrue (is_sorted path_cmp es)) by_scopes
    (λ k v is. subst (λ b. IsTrue b) (sym (sorted_within k v)) is) gs are.ascending (groups_of _ gs are.each)
