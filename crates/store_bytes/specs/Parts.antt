-- A store's entries, parted into scopes.
-- Source: this project's own.
use Rattle.std.proofs.Common.{if◌then◌else◌, ◌∷◌}
use Rattle.std.specs.Prelude.{List, [], map, suc, ℕ}
use Rattle.std.specs.Ordering.{eq_by_cmp}
use Rattle.load_path.specs.Paths.{PathParts}
use Rattle.load_places.specs.Places.{PlaceParts, scope_cmp}
use Rattle.load_places.specs.declared.places.Scope.{Scope}
use Rattle.edit_sums.specs.Entries.{Entry}
use Rattle.store_bytes.specs.Stores.{Scoped}

-- one more entry, before all others: in the first scope if that is its own, else in a scope before it
abbrev pub with_first_entry : PlaceParts × Entry → List Scoped → List Scoped
with_first_entry e [] = (e.0.scope, (e.0.path, e.1) ∷ []) ∷ []
with_first_entry e (g ∷ gs) =
    if eq_by_cmp scope_cmp e.0.scope g.0 then (g.0, (e.0.path, e.1) ∷ g.1) ∷ gs else (e.0.scope, (e.0.path, e.1) ∷ []) ∷ g ∷ gs

-- entries in place order, by scope
abbrev pub parted : List (PlaceParts × Entry) → List Scoped
parted [] = []
parted (e ∷ es) = with_first_entry e (parted es)

-- entries by path, without their scopes
abbrev pub by_path : List (PlaceParts × Entry) → List (PathParts × Entry)
by_path = map (λ e. (e.0.path, e.1))

-- how many of the first entries are of a scope
abbrev pub leading : Scope → List (PlaceParts × Entry) → ℕ
leading scope [] = 0
leading scope (e ∷ es) = if eq_by_cmp scope_cmp scope e.0.scope then suc (leading scope es) else 0
