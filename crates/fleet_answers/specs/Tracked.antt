-- What is cached of a store, and the places that were touched since.
-- Source: this project's own.
use Rattle.std.proofs.Common.{◌≡◌, ◌≤◌, ◌⊎◌}
use Rattle.fleet_answers.specs.Prelude.{All, drop, EntryMap, IsAmong, length, List, LoadMap, PlaceParts, visible_at}
use Rattle.fleet_answers.specs.{Answers.{IsSnapshotOf}, declared.caches.{Cached.{Cached}, SnapshotCache.{SnapshotCache}}}

-- The stores show the same at each place but these.
abbrev pub ShowTheSameBut : List PlaceParts → EntryMap → EntryMap → Type 0
ShowTheSameBut places s t = (p : PlaceParts) → IsAmong p places ⊎ (visible_at s p ≡ visible_at t p)

-- The load is a snapshot of some store that shows what this one shows at each place but these.
pub record IsSnapshotBefore (load : LoadMap) (now : EntryMap) (touched : List PlaceParts) : Type 0 where
  pub before : EntryMap
  pub snapshot_is : IsSnapshotOf before load
  pub rest : ShowTheSameBut touched before now

-- The snapshot is one of some store that shows what this one shows at each place but those listed from its mark on.
pub record IsCachedFor (store : EntryMap) (touched : List PlaceParts) (one : Cached) : Type 0 where
  pub within : one.mark ≤ length touched
  pub snapshot_is : IsSnapshotBefore one.snapshot store (drop one.mark touched)

-- So is each snapshot that is cached.
abbrev pub IsCacheFor : EntryMap → SnapshotCache → Type 0
IsCacheFor store cache = All (IsCachedFor store cache.touched.items) cache.cached.items
