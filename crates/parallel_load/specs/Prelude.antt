-- What the definitions use of std and of the crates below.
pub use Rattle.fragment_choice.specs.{Choices.{is_null, is_same, own_path}, LinkTargetLaws.{among_level, IsShown, link_targets_decide, link_targets_show, SameWords, views_decide_link_targets}, LinkTargets.{coded_link_targets, HasOwnLinkTargets, link_targets, NamedWords, Target, target_part, targets_in, words_of}, Prelude.{Content, Entry, EntryMap, Fleet, Host, host_view_of, HostViewMap, Instance, is_name, IsAmong, IsLevel, IsName, level_for, levels, Name, name_cmp, of_fleet, of_host, one_ascending_list, own_scope, path_after, PathMap, PathParts, PlaceParts, Plain, Profile, same_sights, scope_of, shape, shown, ShowsNothing, Template, UnitShape, view, viewed_at, viewed_place, Viewer, visible_at}, ResolutionLaws.{mains_are_their_own}}
pub use Rattle.unit_values.specs.BuiltIn.{perpetual_units}
pub use Rattle.index_rows.specs.Prelude.{IsClosure, IsReached, turned}
pub use Rattle.load_places.specs.LevelLaws.{level_is}
pub use Rattle.name_closure.specs.{Chains.{HasOver}, ClosureLaws.{one_closure, reached_closed}, declared.loads.ClosureFault.{ClosureFault}, Loading.{AreLoaded}, LoadingLaws.{one_load_of_nodes}, SourceLaws.{same_closure, same_reached}, StableLaws.{closure_stays}}
pub use Rattle.path_maps.specs.{Folders.{is_in}, HostViewLaws.{get-view}, HostViews.{Own, own_of, viewer_of}, Prelude.{is_less}, ScopeLaws.{get-scope_of}}
pub use Rattle.list_laws.specs.Members.{IsAmong-append_cases, IsAmong-append_left}
pub use Rattle.profiles.specs.declared.profiles.Profile.TheVariants.{Files, Manager}
pub use Rattle.sorted_pairs.specs.Places.{IsAt}
pub use Rattle.std.{proofs.{Common.{[], All, ap, arith, Bool, codes, cond, eqb, false, filter, get_or, inl, inr, is_some, IsSome, IsTrue, length, List, map, None, not, Option, refl, Some, subst, suc, sym, true, unwrap_or, zero, ℕ, ◌∙◌}, lemmas.{Bool.{and_from, and_parts}, Cmp.{tied_itself}, List.Elements.{All-head, All-tail, All-weaker, Contains-get_or}, Map.Keys.{sorted_head, sorted_tail}, Option.{none-some, same_Some}, Slice.Eq.{bytes_eq-Decides}}}, specs.{Cmp.{IsTotalOrder, Lexicographic.{nat_list_cmp_total, pointwise}}, Coded.{code_by, Coded, coded_list, coded_option, coded_ℕ, coded×}, declared.cmp.Ordering.{Ordering, TheVariants.{Equal, Greater, Less}}, FinMap.{Entries.{below_all}, find, is_sorted, IsAntisymmetric, nat_cmp-IsAntisymmetric, slice_cmp-IsAntisymmetric}, List.{AllByRecursion, cons_option, Contains, filter_map, flat_map, list_any, Sorted.{IsStrictlySortedBy}, starts_with}, Map.{keys_of}, Option.{option_and_then, option_map}, Ordering.{is_eq, is_lt}, Prelude.{IfSome, slice_index_or}}}
pub use Rattle.unit_loads.specs.{declared.units.Unit.{Unit as LoadedUnit}, Footprints.{footprint, StoresAgreeIn}, HostLaws.{hosts_without_places_have_these_units, hosts_without_places_name_alike}, MemberLaws.{among_filter, among_map, filter_among, HasSource, map_among}, NamedUnits.{IsListed, IsNamed}, NameLaws.{lists_have_what_is_named}, Prelude.{among_from_contains, AreNames, contains_from_among, DependencyList, DepKind, in_byte_order, leads_decide_mains, main, names_stay, SameLeads}, UnitLaws.{one_unit}, Units.{IsUnit}}
pub use Rattle.unit_name.specs.{NameLaws.{name_eq-Decides}, Names.{is_dot}}
pub use Rattle.worker_rounds.specs.{declared.faults.RoundFault.{RoundFault as WorkersFault}, Refusals.{refusal_of as refusal_in_rounds}}
