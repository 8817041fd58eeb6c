-- When a load can be refreshed, and what stays of it.
-- Source: this project's own.
use Rattle.std.proofs.Common.{◌<◌, ◌≡◌, ◌⊎◌}
use Rattle.parallel_load.specs.Prelude.{[], All, DependencyList, EntryMap, footprint, host_view_of, HostViewMap, IfSome, is_sorted, IsAmong, IsTrue, keys_of, length, List, Name, name_cmp, Option, PlaceParts, slice_index_or, visible_at, ℕ}
use Rattle.parallel_load.specs.{Alone.{IsLoadAlone}, declared.loaded.NameLoad.{NameLoad, TheVariants.{Alias as OfAlias, Unit as OfUnit}}, Loads.{IsLoad, LoadMap, with_lists}}

-- The load was made from some store, and these places are all at which that store and this one show different contents.
pub record IsBefore (load : LoadMap) (now : EntryMap) (touched : List PlaceParts) : Type 0 where
  pub before : EntryMap
  pub load_is : IsLoad (host_view_of before load.viewer) load.extra load
  pub rest : (p : PlaceParts) → IsAmong p touched ⊎ (visible_at before p ≡ visible_at now p)

-- ---- what stays

-- none of these folders is in the footprint of the name's unit: an alias has none
abbrev pub IsMissed : List (List ℕ) → Name → NameLoad → Type 0
IsMissed folders name (OfUnit unit) = (folder : List ℕ) → IsAmong folder folders → ¬ IsAmong folder (footprint name unit.names)
IsMissed folders name (OfAlias of) = Unit {0}

-- this is what was loaded for a name, before names were replaced by main names, and the name has none of these indices
pub record IsStill (affected : List ℕ) (names : List (Name × NameLoad)) (named : List (List DependencyList))
    (name : Name) (one : NameLoad) : Type 0 where
  pub index : ℕ
  pub below : index < length names
  pub load : NameLoad
  pub at : slice_index_or names index (name, load) ≡ (name, load)
  pub is : one ≡ with_lists load (slice_index_or named index [])
  pub left : ¬ IsAmong index affected

-- all names of a load, each with what stays of it
pub record AreStill (affected : List ℕ) (names : List (Name × NameLoad)) (named : List (List DependencyList))
    (still : List (Name × Option NameLoad)) : Type 0 where
  pub keys_are : keys_of still ≡ keys_of names
  pub each : All (λ p. IfSome p.1 (IsStill affected names named p.0)) still

-- what is held for a name is what is loaded for it
abbrev pub IsHeldOn : HostViewMap → Name × Option NameLoad → Type 0
IsHeldOn s p = IfSome p.1 (IsLoadAlone s p.0)

-- the same for names in order
pub record AreHeldOn (s : HostViewMap) (held : List (Name × Option NameLoad)) : Type 0 where
  pub sorted : IsTrue (is_sorted name_cmp held)
  pub loaded : All (IsHeldOn s) held
