-- What a store keeps in addition to its maps.
-- Source: this project's own.
use Rattle.std.proofs.Common.{◌-◌, ◌^◌, ◌≡◌, ◌≤◌}
use Rattle.path_maps.specs.{PathMaps.{AreRanks, flat, listed, RankMap}, PlaceMaps.{all_held, AreScopes, ScopeMap}, Prelude.{EntryMap, high_of, IsPath, IsSome, PathParts, PlaceParts, ℕ}, Spread.{AllKeys, AllValues}}
use Rattle.std.specs.FinMap as finmap

-- The maps are in order, and entries are held only at valid paths.
pub record AreWellFormed (m : RankMap) : Type 0 where
  pub ranks : AreRanks m
  pub paths : (q : PathParts) → IsSome (finmap.get (flat m) q) → IsPath q

-- In each scope, entries are held only at valid paths.
abbrev pub HasWellFormedPaths : ScopeMap → Type 0
HasWellFormedPaths = AllValues (λ ranks. AllKeys IsPath (listed ranks))

-- Entries are held only at valid paths; there are `len` of them, and `high` is their greatest counter.
pub record IsCounted (s : EntryMap) (len high : ℕ) : Type 0 where
  pub paths : (q : PlaceParts) → IsSome (finmap.get s q) → IsPath q.path
  pub counted : len ≡ finmap.len s
  pub greatest : high ≡ high_of s

-- The maps are in order, their entries have this count and greatest counter, and the count fits in 64 bits.
pub record IsKept (m : ScopeMap) (len high : ℕ) : Type 0 where
  pub scopes : AreScopes m
  pub counted : IsCounted (all_held m) len high
  pub fits : len ≤ 2 ^ 64 - 1
