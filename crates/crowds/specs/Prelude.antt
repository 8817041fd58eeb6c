-- What the definitions use of std and of the crates below.
pub use Rattle.edit_sums.specs.{declared.contents.Content.TheVariants.{Gone}, Prelude.{Fleet, place_cmp, PlaceParts}}
pub use Rattle.load_path.specs.Paths.{PathParts}
pub use Rattle.node_histories.specs.{declared.events.HistoryEvent.TheVariants.{Opening}, Prelude.{Edit, edits_of, sum_of}}
pub use Rattle.shared_node.specs.{Prelude.{Absorbed, Edited, EntryMap, HistoryEvent}, Seats.{SeatNow}}
pub use Rattle.std.{proofs.Common.{[], Bool, codes, false, List, map, Ok, Result, slice_get, Some, ℕ}, specs.{Fmt.{decimal}, List.{range_with_len}, Ordering.{eq_by_cmp}, Prelude.{count_by}}}
