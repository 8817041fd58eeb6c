-- What the proofs use of std and of the crates below.
pub use Rattle.edit_sums.specs.{Entries.{Entry}, GreatestLaws.{passed, tied}, SumLaws.{same_store}, Sums.{EntryMap}}
pub use Rattle.list_laws.specs.{Orderings.{is_less, turned}, Searches.{below_at}, Truths.{from_T, to_T}}
pub use Rattle.load_places.specs.PlaceLaws.{place_cmp-IsAntisymmetric, place_cmp_total}
pub use Rattle.range_prints.specs.Prelude.{cut, digest_of, is_asked, place_cmp, PlaceParts, Version, VersionMap}
pub use Rattle.std.{proofs.{Common.{[], add-zero, add_assoc, All, ap, append-nil, arith, Bool, cond, drop, false, get_or, IsTrue, length, List, map, None, not, Option, refl, rules, Some, subst, suc, sym, take, true, zero, ℕ, ◌∙◌}, lemmas.{Bool.{and_parts}, Grind.{div_ceil_times}, List.{Elements.{All-drop, filter_passes}, Sums.{fold-append}, Sorted.{IsPartitionPoint-from_clause}, length-append, length-drop, take_rest}}, Math.Nat.{add-mod-mod, add-mul, lt_of_mul-lt-mul_right, mod-add-mod, mod-eq_of_lt, mod-lt}}, specs.{Cmp.{tied_itself}, declared.cmp.Ordering.{Ordering, TheVariants.{Equal, Greater, Less}}, FinMap.{Entries.{below_all, find, is_sorted, is_sorted-where_key}, same_map}, Int.{div_ceil}, List.{fold, Sorted.{IsPartitionedBy, IsPartitionPoint}}, Ordering.{eq_by_cmp, is_gt, is_lt, ordering_reverse}}}
pub use Rattle.world_law.specs.{CutLaws.{get-cut}, Cuts.{is_newer, is_wanted}}
