-- What the proofs use of std, of the crates below and of the definitions.
pub use Rattle.edit_sums.specs.{EntryLaws.{larger_idem}, Prelude.{place_cmp-IsAntisymmetric}, SumLaws.{join-nothing, join_assoc, join_comm, with_edit-join}, Sums.{with_edit}}
pub use Rattle.join_law.specs.Prelude.{find_before, from_T, is_equal, is_less, to_T}
pub use Rattle.list_laws.specs.Orderings.{is_greater}
pub use Rattle.sorted_pairs.specs.{PlaceLaws.{find_at, find_gap, insert_is_put, set_is_put}, Places.{IsNotBelow}, Prelude.{turned}}
pub use Rattle.std.{proofs.{Common.{[], add-one, ap, append-nil, arith, Bool, Bor, cond, drop, drop-cons, false, filter, get_or, IsTrue, length, List, map, None, OnOk, Option, refl, set, slice_get, Some, subst, suc, sym, take, true, zero, ℕ, ◌∙◌}, lemmas.{Bool.{and_from, and_parts, Decides.{nat_tests}}, List.{Elements.{filter_more}, Folds.{list_any-append}, length-drop, map-append, take-append-drop, take_all, take_more}}}, specs.{Cmp.{tied_itself}, declared.cmp.Ordering.TheVariants.{Equal, Greater, Less}, FinMap.{Entries.{below_all, find, find-put, is_sorted, is_sorted-put}, FinMap, put, same_map}, Option.{option_copied, option_map}, Ordering.{eq_by_cmp, is_eq, is_lt, ordering_reverse}, Prelude.{insert}}}
pub use Rattle.world_law.specs.{CutLaws.{get-cut, get-digest_of, get-only_at, whole_answer}, Cuts.{cut, digest_of, is_asked, is_newer, is_wanted, only_at, VersionMap}, Prelude.{Edit, edit_of, edits_of, Entry, EntryMap, get-join, get-sum_of, join, larger, passed, place_cmp, place_cmp_total, PlaceParts, same_store, sum_of, sum_of-append, sum_of-edits_of, tied, Version}}
