-- What the closure finds in a store, from which a load is made: definitions for private clauses.
-- Source: this project's own.
use Rattle.std.proofs.Common.{◌≤◌}
use Rattle.parallel_load.specs.{Alone.{IsLoadAlone}, declared.loaded.NameLoad.{NameLoad}, Prelude.{AreLoaded, HostViewMap, keys_of, length, List, Name}, Universe.{AreUniverse}}

-- all names of the universe, at most as many as a load may have, each with what is loaded for it
pub record IsFound (s : HostViewMap) (extra : List Name) (found : List (Name × NameLoad)) : Type 0 where
  pub universe : AreUniverse s extra (keys_of found)
  pub loaded : AreLoaded (IsLoadAlone s) found
  pub few : length (keys_of found) ≤ 4096
