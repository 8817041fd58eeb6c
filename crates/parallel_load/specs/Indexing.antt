-- The indices of main names: definitions for private clauses.
-- Source: this project's own.
use Rattle.std.proofs.Common.{◌<◌, ◌∷◌, ◌≡◌}
use Rattle.parallel_load.specs.{declared.loaded.NameLoad.{NameLoad, TheVariants.{Alias as OfAlias, Unit as OfUnit}}, Indices.{name_of}, Loads.{main_part}, Prelude.{[], IsAmong, keys_of, length, List, LoadedUnit, Name, ℕ}}

-- ---- the indices of main names

-- the main name of a name that was found
abbrev pub main_name : Name × NameLoad → Name
main_name (name, OfUnit unit) = name
main_name (name, OfAlias of) = of

-- this is the index of a name's main name, if that was found
pub record IsMainIndex (found : List (Name × NameLoad)) (p : Name × NameLoad) (index : ℕ) : Type 0 where
  pub below : index < length found
  pub named : IsAmong (main_name p) (keys_of found) → name_of found index ≡ main_name p

-- the main name that was found for a name is that of a unit that was found
pub record HasMainUnit (found : List (Name × NameLoad)) (p : Name × NameLoad) : Type 0 where
  pub main_is : main_part p.1 ≡ main_name p
  pub unit : LoadedUnit
  pub there : IsAmong {X = Name × NameLoad} (main_name p, OfUnit unit) found

-- these are names that were found, each with the index of its main name
abbrev pub AreIndexed : List (Name × NameLoad) → List (Name × NameLoad) → List (Name × ℕ) → Type 0
AreIndexed found [] [] = Unit {0}
AreIndexed found [] (m ∷ ms) = ⊥
AreIndexed found (p ∷ ps) [] = ⊥
AreIndexed found (p ∷ ps) (m ∷ ms) = (m.0 ≡ p.0) × IsMainIndex found p m.1 × AreIndexed found ps ms
