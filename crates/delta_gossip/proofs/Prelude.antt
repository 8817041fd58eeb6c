-- What the proofs use of std, of the crates below and of the definitions.
pub use Rattle.delta_gossip.specs.{Exchanges.{AreBeingJoined}, Prelude.{Event, IsSumOf, Replicated, Took, VersionMap}, Shows.{IsWorld, Shows, world_after}, Sweeps.{AreBetween, IsBetween, IsLeastAbove, join_all, join_of, with_store}}
pub use Rattle.edit_sums.specs.SumLaws.{join-least, join-nothing, join-right, join_assoc, join_comm, join_idem, store_below_antisym, store_below_refl, store_below_trans, sum_of-same_edits}
pub use Rattle.std.{proofs.{Common.{[], All, ap, arith, drop, Err, get_or, length, List, map, None, Ok, OnErr, Option, refl, replicate, Result, reverse, set, slice_get, Some, subst, suc, sym, take, zero, ℕ, ◌∙◌}, lemmas.{List.{Elements.{All-cons, All-head, All-nil, All-tail, All-weaker}, map-append, map-set, map_push, take-append-drop, take_all, take_more}, Option.{IfSome_then, slice_get-map, slice_get_past, slice_get_read}, Result.{on_err_weaker}}}, specs.{List.{ItemBy}, Option.{option_map}, Prelude.{IfSome}}}
pub use Rattle.world_law.specs.{Cuts.{cut, digest_of}, declared.events.Event.TheVariants.{Ask, Cut, Give, Put}, Prelude.{Edit, EntryMap, get-sum_of, IsBelow, IsStoreBelow, join, join-left, place_cmp, PlaceParts, sum_of}, Worlds.{after, AreSameEdits, Asked, asked_by, blank, changed_at, cut_for, edits_with, EventWorld, given_to, happens, Node, Piece, taken, took, took_by}}
