-- What the definitions use of std and of the crates below.
pub use Rattle.edit_sums.specs.{Contents.{content_cmp}, CounterLaws.{edits_of-found}, declared.entries.Edit.{Edit}, Entries.{Entry, IsBelow, larger}, EntryLaws.{below_refl, below_trans, larger-absorb, larger-left, larger-mono, larger_assoc, larger_comm}, GreatestLaws.{get-join, get-sum_of, get_from_edits_of, greatest_at-append, greatest_at-edits_of, greatest_at-filter, greatest_at-found, IsAmong_from_filter, passed, passed_was, tied}, Prelude.{IsAmong, place_cmp, place_cmp_total, PlaceParts, Version, version_cmp}, SumLaws.{join-left, same_store, sum_of-append, sum_of-edits_of, sum_of-IsSum}, Sums.{edit_of, edits_of, entry_of, EntryMap, greatest_at, IsAboveEdits, IsHonest, IsStoreBelow, join, sum_of}}
pub use Rattle.join_law.specs.VersionOrderLaws.{version_cmp-IsAntisymmetric}
pub use Rattle.list_laws.specs.Members.{IsAmong-append_cases, IsAmong-append_left, IsAmong-append_right}
pub use Rattle.std.{proofs.{Common.{[], ap, arith, Bool, cond, false, filter, inl, inr, IsSome, length, List, map, nat_lt, None, Option, refl, replicate, reverse, slice_get, Some, subst, suc, sym, true, zero, ℕ, ◌∙◌}, lemmas.{Bool.{cond-true, Decides.{nat_tests}}, Option.{slice_get_within}}}, specs.{declared.cmp.Ordering.TheVariants.{Equal, Greater, Less}, FinMap.{find, FinMap}, List.{list_any}, Option.{option_map}, Ordering.{eq_by_cmp, is_gt, ordering_then}, Prelude.{IfSome}}}
