-- Loads in which some units are replaced.
-- Source: this project's own.
use Rattle.std.proofs.Common.{◌<◌, ◌∷◌, ◌≡◌}
use Rattle.parallel_load.specs.Prelude.{[], All, HostViewMap, is_sorted, IsTrue, keys_of, length, List, Name, name_cmp, suc, zero, ℕ}
use Rattle.parallel_load.specs.{declared.loaded.{Dependency.{Dependency}, NameLoad.{NameLoad}, Patches.{Patches}}, Indices.{AreDependencyAdjacency}, LoadRows.{IsKept}, Loads.{IsLoad, LoadMap}, SecondaryNames.{AreSecondaryNames}, Universe.{IsTooLarge}}

-- ---- names

-- names, in which the one with an index resolves to this instead
abbrev pub put_load : List (Name × NameLoad) → ℕ → NameLoad → List (Name × NameLoad)
put_load [] index load = []
put_load (p ∷ names) zero load = (p.0, load) ∷ names
put_load (p ∷ names) (suc index) load = p ∷ put_load names index load

-- the same for several, one after the other
abbrev pub with_loads : List (Name × NameLoad) → List (ℕ × NameLoad) → List (Name × NameLoad)
with_loads names [] = names
with_loads names (u ∷ units) = with_loads (put_load names u.0 u.1) units

-- the load in which these replace what names with their indices resolved to
abbrev pub patched_load : LoadMap → List (ℕ × NameLoad) → LoadMap
patched_load load units = record load { names = with_loads load.names units }

-- ---- loads

-- The loads have the same names in byte order, with the same dependencies between them by indices.
pub record HaveSameAdjacency (a b : LoadMap) : Type 0 where
  pub names_are : keys_of a.names ≡ keys_of b.names
  pub sorted : IsTrue (is_sorted name_cmp a.names)
  pub sorted_too : IsTrue (is_sorted name_cmp b.names)
  pub table : List (List Dependency)
  pub rows : AreDependencyAdjacency a.names table
  pub rows_too : AreDependencyAdjacency b.names table

-- the units belong to names of the load, and its rows stay valid for them
pub record FitIn (load : LoadMap) (patches : Patches) : Type 0 where
  pub named_are : patches.kept.named.items ≡ load.named
  pub words_are : patches.kept.words ≡ load.words
  pub within : All (λ u. u.0 < length load.names) patches.units.items
  pub kept : IsKept (with_loads load.names patches.units.items) load.named patches.kept.deps.items patches.kept.mains
  pub second : AreSecondaryNames (with_loads load.names patches.units.items) patches.kept.second

-- with these units in place of the old ones, the load is that of what the host sees
pub record AreUnitsOf (s : HostViewMap) (load : LoadMap) (patches : Patches) : Type 0 where
  pub fit : FitIn load patches
  pub is_load : IsLoad s load.extra (patched_load load patches.units.items)
  pub not_over : ¬ IsTooLarge s load.extra
  pub same : HaveSameAdjacency load (patched_load load patches.units.items)
