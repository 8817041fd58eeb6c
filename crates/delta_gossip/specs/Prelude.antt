-- What the definitions use of std and of the crates below.
pub use Rattle.edit_sums.specs.Sums.{changed_places}
pub use Rattle.replica_store.specs.Replicas.{Replicated}
pub use Rattle.std.{proofs.Common.{[], All, List, map, reverse, slice_get, ℕ}, specs.Prelude.{IfSome}}
pub use Rattle.world_law.specs.{Cuts.{AreToldApart, VersionMap}, declared.events.Event.{Event}, Prelude.{Edit, EntryMap, IsStoreBelow, join, sum_of}, Took.{IsSumOf, Took}, Worlds.{after, AreSameEdits, blank, EventWorld, puts_of, took}}
