-- Loads that are the same but for the places that they tell.
-- Source: this project's own.
use Rattle.std.proofs.Common.{◌∷◌, ◌≡◌}
use Rattle.tree_answers.specs.Prelude.{[], HostViewMap, List, LoadedUnit, Name, NameLoad, None, Option, Some}
use Rattle.tree_answers.specs.Alike.{AreSameUnits}
use Rattle.parallel_load.specs.declared.loaded.NameLoad.TheVariants as one

module _ (v w : HostViewMap) where
  -- what a name resolves to: the same unit, or an alias of the same name
  abbrev pub IsSameOne : NameLoad → NameLoad → Type 0
  IsSameOne (one.Unit u) b = (t : LoadedUnit) × AreSameUnits v w u t × (b ≡ one.Unit t)
  IsSameOne (one.Alias of) b = b ≡ one.Alias of

  -- the same names, with what they resolve to
  abbrev pub AreSamePairs : List (Name × NameLoad) → List (Name × NameLoad) → Type 0
  AreSamePairs [] [] = Unit {0}
  AreSamePairs [] (f ∷ fs) = ⊥
  AreSamePairs (e ∷ es) [] = ⊥
  AreSamePairs (e ∷ es) (f ∷ fs) = (f.0 ≡ e.0) × IsSameOne e.1 f.1 × AreSamePairs es fs

  -- what is found for a name
  abbrev pub IsSameFound : Option NameLoad → Option NameLoad → Type 0
  IsSameFound None b = b ≡ None
  IsSameFound (Some x) b = (y : NameLoad) × IsSameOne x y × (b ≡ Some y)

  -- the unit that is found, if one is
  abbrev pub IsSameUnitFound : Option LoadedUnit → Option LoadedUnit → Type 0
  IsSameUnitFound None b = b ≡ None
  IsSameUnitFound (Some u) b = (t : LoadedUnit) × AreSameUnits v w u t × (b ≡ Some t)
