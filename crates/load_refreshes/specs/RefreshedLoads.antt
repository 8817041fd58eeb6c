-- What refreshing a load results in.
-- Source: this project's own.
use Rattle.std.proofs.Common.{◌≡◌}
use Rattle.path_maps.specs.HostViews.{HostViewMap}
use Rattle.parallel_load.specs.{Loads.{IsLoad, LoadMap}, Patched.{HaveSameAdjacency}}
use Rattle.load_refreshes.specs.declared.refreshing.Refreshed.{Refreshed, TheVariants.{Anew, InPlace}}

-- the result of refreshing is the load of what the host sees: in place with the same rows, or new, besides the old load
abbrev pub IsRefreshed : HostViewMap → LoadMap → Refreshed → Type 0
IsRefreshed s old (InPlace load) = IsLoad s old.extra load × HaveSameAdjacency old load
IsRefreshed s old (Anew before load) = (before ≡ old) × IsLoad s old.extra load
