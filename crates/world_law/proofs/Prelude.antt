-- What the proofs use of std, of the crates below and of the definitions.
pub use Rattle.edit_sums.specs.{GreatestLaws.{greatest_at-above}, SumLaws.{sum_of-least, sum_of-same_edits}}
pub use Rattle.std.{proofs.{Common.{[], ap, append-nil, append_assoc, arith, Bool, cond, false, filter, inl, inr, IsSome, length, List, nat_lt, None, Option, refl, replicate, reverse, slice_get, Some, subst, suc, sym, true, zero, ℕ, ◌∙◌}, lemmas.Grind.{reverse_onto}}, specs.Prelude.{IfSome}}
pub use Rattle.world_law.specs.{CutLaws.{honest_are_told_apart, whole_answer}, Cuts.{AreToldApart, at_places, cut, is_asked}, declared.events.Event.{Event, TheVariants.{Ask, Cut, Give, Put}}, Prelude.{Edit, edit_of, edits_of, Entry, entry_of, EntryMap, get-sum_of, greatest_at-found, IsAboveEdits, IsAmong, IsAmong-append_cases, IsAmong-append_left, IsAmong-append_right, IsAmong_from_filter, IsBelow, IsStoreBelow, PlaceParts, sum_of}, SoundLaws.{after_keeps, blank_sound, IsSound}, Took.{HoldsTheSum, IsAskOf, IsSumOf, Took, Took.{entry, put, stays, whole}, TookByEvents, WasCut, world_of}, WorldLaws.{node_count, piece_stays, slice_get_last, took_stays}, Worlds.{after, AreSameEdits, Asked, asked_by, blank, changed_at, cut_for, EachStoreIsItsSum, EachStoreIsLeast, edits_with, EventWorld, given_to, Node, Piece, puts_of, SameTookSameStore, taken, took, took_by}}
