-- What the definitions use of std and of the crates below.
pub use Rattle.join_law.specs.{declared.versions.Version.{Version}, VersionOrder.{version_cmp}, VersionOrderLaws.{version_cmp_total}}
pub use Rattle.list_laws.specs.{Members.{IsAmong}, Truths.{T-both}}
pub use Rattle.load_path.specs.Prelude.{tied_parts}
pub use Rattle.load_places.specs.{declared.places.Scope.TheVariants.{Fleet}, PlaceLaws.{place_cmp-IsAntisymmetric, place_cmp_total}, Places.{place_cmp, PlaceParts}}
pub use Rattle.std.{proofs.{Common.{[], ap, arith, Bool, cond, Err, false, filter, inl, inr, length, List, map, nat_le, nat_lt, None, not, Ok, Option, refl, Result, Some, subst, sym, T, true, unwrap_or, ℕ, ◌∙◌}, lemmas.{Bool.Decides.{nat_tests}, Cmp.{ranked, tied_itself}}}, specs.{Cmp.{IsTotalOrder, Lexicographic.{nat_list_cmp_total, slice_cmp}, nat_cmp_total, on_total, then_total}, Coded.{code_by, Coded, coded×}, declared.cmp.Ordering.{Ordering, TheVariants.{Equal, Greater, Less}}, FinMap.{Entries.{below_all}, find, FinMap, is_sorted, nat_cmp-IsAntisymmetric, same_map, slice_cmp-IsAntisymmetric}, List.{list_all}, Option.{option_and_then}, Ordering.{eq_by_cmp, is_eq, is_gt, is_lt, nat_cmp, ordering_then}, Prelude.{count_by, max}}}
