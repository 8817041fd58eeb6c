-- What the definitions use of std and of the crates below.
pub use Rattle.edit_sums.specs.declared.contents.Content.{Content}
pub use Rattle.load_places.specs.Places.{PlaceParts}
pub use Rattle.node_histories.specs.{Codes.{coded_history}, declared.events.HistoryEvent.{HistoryEvent, TheVariants.{Absorbed, Edited}}, Histories.{is_take_of, IsLegal, takes_in, takes_of}, Prelude.{coded_replicated, EntryMap, Replicated}}
pub use Rattle.std.{proofs.Common.{[], Err, false, fold, List, None, Ok, Option, refl, Result, slice_get, Some, true, ℕ}, specs.Coded.{code_by, Coded, coded_ℕ, coded×}}
