-- All names of a unit.
-- Source: systemd.unit(5), "Description".
use Rattle.std.proofs.Common.{◌↔◌, ◌∷◌, ◌≡◌, ◌≢◌}
use Rattle.fragment_choice.specs.{Prelude.{HostViewMap, IsAmong, IsName, IsStrictlySortedBy, List, Name, name_cmp}, Resolutions.{main}}

-- `n` is another name of the unit `u`: its main name is `u`.
pub record IsOtherName (s : HostViewMap) (u n : Name) : Type 0 where
  pub other : n ≢ u
  pub name : IsName n
  pub main_is : main s n ≡ u

-- The names of the unit `u`: `u`, then all others in byte order.
pub record AreNames (s : HostViewMap) (u : Name) (names : List Name) : Type 0 where
  pub others : List Name
  pub first : names ≡ u ∷ others
  pub ascending : IsStrictlySortedBy name_cmp others
  pub exact : (n : Name) → IsAmong n others ↔ IsOtherName s u n
