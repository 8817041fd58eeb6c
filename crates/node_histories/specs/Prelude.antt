-- What the definitions use of std and of the crates below.
pub use Rattle.edit_sums.specs.{CounterLaws.{counter_among, high_of-sum_of}, SumLaws.{sum_of-push, sum_of-same_edits}, Sums.{changed_places, high_among, high_of, with_edit}}
pub use Rattle.replica_store.specs.{Prelude.{coded_entry, coded_place}, Replicas.{coded_replicated, next_version, Replicated}}
pub use Rattle.std.{proofs.{Common.{[], ap, append-nil, append_assoc, arith, Bool, cond, false, filter, length, length-append, List, None, refl, replicate, slice_get, Some, subst, suc, sym, true, zero, ℕ, ◌∙◌}, lemmas.{Bool.{ne_eqb}, List.Sums.{count_by-le-length, sum_by-append}}}, specs.{Coded.{code_by, Coded, Coded-set, coded_list, coded_ℕ, coded×, le_prop, Unit-prop, ×_prop}, Option.{option_map}, Prelude.{count_by, MatchBool}}}
pub use Rattle.world_law.specs.{CutLaws.{get-digest_of}, Cuts.{at_places, cut, digest_of, is_newer, is_wanted}, declared.events.Event.TheVariants.{Ask, Cut, Give, Put}, Prelude.{Edit, edits_of, EntryMap, get-sum_of, IsAmong, join, sum_of, sum_of-append, sum_of-edits_of}, WorldLaws.{slice_get_last}, Worlds.{after, Asked, asked_by, blank, changed_at, cut_for, edits_with, EventWorld, given_to, happens, Node, Piece, taken}}
