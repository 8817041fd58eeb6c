-- What cursors over nested maps yield, and what is left of them.
-- Source: this project's own.
use Rattle.std.proofs.Common.{◌++◌, ◌∷◌}
use Rattle.path_maps.specs.Prelude.{[], AllByRecursion, At, Content, Entry, flat_map, IsPath, List, Never, None, Option, PathParts, PlaceParts, Scope, Some, Versioned, ℕ}
use Rattle.path_maps.specs.{PathMaps.{at_name, FolderMap, listed, NameMap, RankMap}, PlaceMaps.{ScopeMap}, Scopes.{within}, Zipped.{zipped}}

-- The items of an optional value; none if it is absent.
abbrev pub in_hand : {A B : Type 0} → (A → List B) → Option A → List B
in_hand items None = []
in_hand items (Some x) = items x

-- An optional list; empty if it is absent.
abbrev pub or_nothing : {A : Type 0} → Option (List A) → List A
or_nothing = in_hand (λ xs. xs)

-- The rest of a list, and then all lists after it.
abbrev pub left_of : {A : Type 0} → Option (List A) → List (List A) → List A
left_of first rest = or_nothing first ++ flat_map (λ xs. xs) rest

-- Each item can be read, and comes before all items after it.
abbrev pub IsReadable : {P : Type 0} → (P → P → Type 0) → (P → Type 0) → List P → Type 0
IsReadable before can [] = Unit {0}
IsReadable before can (p ∷ ps) = can p × (AllByRecursion (before p) ps × IsReadable before can ps)

-- An entry is held, at a valid path.
abbrev pub IsHeldAt : PathParts → Versioned Content → Type 0
IsHeldAt path Never = ⊥
IsHeldAt path (At x) = IsPath path

-- What is read from the names of a folder, from the folders of a rank and from all ranks: entries with what is held
-- beside each.
abbrev pub names_read : {H : Type 0} → (List ℕ → H) → ℕ → List ℕ → NameMap → List ((PathParts × Entry) × H)
names_read held rank folder = flat_map (λ e. zipped (λ _. held e.0) (at_name rank folder e.0 e.1))

abbrev pub folders_read : {H : Type 0} → (List ℕ → List ℕ → H) → ℕ → FolderMap → List (List ((PathParts × Entry) × H))
folders_read held rank = flat_map (λ e. names_read (held e.0) rank e.0 e.1 ∷ [])

abbrev pub ranks_read : {H : Type 0} → (ℕ → List ℕ → List ℕ → H) → RankMap → List (List (List ((PathParts × Entry) × H)))
ranks_read held = flat_map (λ e. folders_read (held e.0) e.0 e.1 ∷ [])

-- What is held beside a path, from what is held by rank, folder and name.
abbrev pub held_at_path : {H : Type 0} → (ℕ → List ℕ → List ℕ → H) → PathParts → H
held_at_path held q = held q.rank q.folder q.name

-- What is read from the entries of a scope, and from all scopes.
abbrev pub scope_read : {H : Type 0} → Scope → List ((PathParts × Entry) × H) → List ((PlaceParts × Entry) × H)
scope_read scope = flat_map (λ p. ((within scope p.0.0, p.0.1), p.1) ∷ [])

abbrev pub scopes_read : {H : Type 0} → (Scope → ℕ → List ℕ → List ℕ → H) → ScopeMap → List (List ((PlaceParts × Entry) × H))
scopes_read held = flat_map (λ e. scope_read e.0 (zipped (held_at_path (held e.0)) (listed e.1)) ∷ [])
