-- What the definitions use of std and of the crates below.
pub use Rattle.edit_sums.specs.Sums.{EntryMap, join}
pub use Rattle.join_law.specs.declared.versions.Version.{Version}
pub use Rattle.list_laws.specs.Members.{IsAmong}
pub use Rattle.load_places.specs.Places.{place_cmp, PlaceParts}
pub use Rattle.range_prints.specs.{declared.ranges.Range.{Range}, Prints.{print}, Ranges.{everything, is_within, versions_of, within}}
pub use Rattle.std.proofs.Common.{Bool, false, List, map, Some, true, ℕ}
pub use Rattle.std.specs.List.{filter, fold, list_any}
pub use Rattle.world_law.specs.Cuts.{cut, digest_of, is_newer, VersionMap}
pub use Rattle.range_prints.specs.Asked.{digest_within}
pub use Rattle.std.proofs.Common.{[], None, Option, slice_get}
pub use Rattle.world_law.specs.{Cuts.{at_places}, declared.events.Event.{Event, TheVariants.{Cut, Give}}, Worlds.{EventWorld, happens, Node}}
pub use Rattle.edit_sums.specs.{Entries.{Entry, IsBelow}, Sums.{IsStoreBelow}}
pub use Rattle.std.proofs.Common.{All}
pub use Rattle.edit_sums.specs.Sums.{edits_of}
pub use Rattle.world_law.specs.Cuts.{AreToldApart}
