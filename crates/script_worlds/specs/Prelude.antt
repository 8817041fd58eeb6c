-- What the definitions use of std and of the crates below.
pub use Rattle.edit_sums.specs.{CounterLaws.{counter_among, high_among-least, high_of-sum_of}, declared.contents.Content.{Content}, SumLaws.{sum_of-edits_of, sum_of-push, sum_of-same_edits}, Sums.{high_among, high_of, with_edit}}
pub use Rattle.profiles.specs.declared.profiles.Profile.{Profile, TheVariants.{Files}}
pub use Rattle.std.{proofs.{Common.{[], ap, arith, Bool, cond, false, inl, inr, length, List, map, nat_lt, None, Option, position, refl, slice_get, Some, subst, suc, sym, true, unwrap_or, zero, ℕ, ◌∙◌}, lemmas.{Bool.{Decides.{nat_tests}, eq-eqb, eqb-true, true≢false}, Iterator.Adapters.{position_from-zero}, List.Folds.{list_any-append}, Option.{slice_get_past}, Slice.Eq.{bytes_eq-Decides}}}, specs.{List.{list_any, position_from, position_or_len}, Option.{option_map}, Str.{bytes_eq}}}
pub use Rattle.world_law.specs.{CutLaws.{honest_are_told_apart}, Cuts.{AreToldApart}, declared.events.Event.{Event, TheVariants.{Ask, Cut, Give, Put}}, Prelude.{Edit, edit_of, edits_of, entry_of, EntryMap, get_from_edits_of, IsAmong, IsAmong-append_cases, IsAmong-append_left, IsAmong-append_right, IsHonest, join, PlaceParts, sum_of}, SoundLaws.{blank_sound, happens_keeps, IsSound, puts_first, puts_rest}, Took.{world_of}, WorldLaws.{given_is_joined, merge_is_joined, node_count, one_node_more, puts_of-one_more, puts_of-Put, took-Ask, took-Cut, took-Give_elsewhere, took-Put, took-Put_elsewhere, took-with_new_node, took_stays, within_more}, Worlds.{AreWithin, happens, puts_of, took, took_by, with_new_node}}
