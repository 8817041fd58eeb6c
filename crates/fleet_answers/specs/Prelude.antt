-- What the definitions use of std and of the crates below.
pub use Rattle.delta_gossip.specs.{Convergence.{ArePutApart}, Prelude.{AreSameEdits, Event, IsStoreBelow, IsSumOf, sum_of, Took}, Shows.{NodeHolds, took_after}}
pub use Rattle.unit_values.specs.BuiltIn.{perpetual_units}
pub use Rattle.inverse_deps.specs.{Dependencies.{IsEdgeAmong}, EdgeLaws.{one_list_by_kind}, Edges.{AreEdgesFrom, AreEdgesOf}}
pub use Rattle.name_closure.specs.{DistanceLaws.{one_list_of_distances}, LimitLaws.{over-closure}, SourceLaws.{AreSameSuccessors, same_distance}}
pub use Rattle.parallel_load.specs.{HostLaws.{hosts_without_places_are_as_large, hosts_without_places_load_alike, loaded_for, same_units_make_the_load}, LoadLaws.{one_load}, Prelude.{DependencyList, DepKind, EntryMap, Host, host_view_of, HostViewMap, IsAmong, IsUnit, level_for, link_targets_decide, LoadedUnit, Name, name_cmp, of_fleet, of_host, PlaceParts, Profile, SameLeads, SameWords, ShowsNothing, Viewer, viewer_of, visible_at}, TouchedLaws.{touched_words_decide}, declared.loaded.NameLoad.{NameLoad, TheVariants.{Alias as OfAlias, Unit as OfUnit}}, Loads.{load_at, main_part, unit_part, units_in}, PairLaws.{find_among}, Universe.{asked_by, IsSource, IsTooLarge, LeadsTo}, UniverseLaws.{all_among, units_are_their_own_mains}}
pub use Rattle.path_maps.specs.HostLaws.{one_viewer, other_hosts_are_not_in_view}
pub use Rattle.profiles.specs.declared.profiles.Profile.TheVariants.{Files, Manager}
pub use Rattle.start_plan.specs.{declared.requests.{Plan.{Plan as PlanMap}, Refusal.{Refusal, TheVariants.{Bad, Conflict, Cycle, ManualStart, Masked, Memory, NotFound, Requisite, Template}}, Request.{Request}}, Outcomes.{IsFault, IsPlanned, IsRefusalOf, IsRefused}, PlanLaws.{one_case, one_plan, one_refusal_returned, plan_or_refusal}, Prelude.{AreEdges, Case, EdgeMap, is_same, IsEdge, IsKnown, IsLoad, IsPlan, IsRefusal, LoadMap, main_in, one_list_of_edges, unit_in, Why}, Requests.{case_of, HasTemplate, is_perpetual_by, main_of}}
pub use Rattle.std.{proofs.{Common.{[], All, ap, drop, inl, inr, length, List, map, None, Option, refl, reverse, Some, subst, sym, ℕ, ◌∙◌}, lemmas.List.Elements.{All-head, All-tail, All-weaker}}, specs.{Cmp.Lexicographic.{nat_list_cmp_total}, List.{list_any, Sorted.{IsStrictlySortedBy}}, Map.{keys_of}, Option.{option_and_then, option_map}}}
pub use Rattle.unit_graph.specs.{GraphLaws.{known_names}, Graphs.{AreDepths, GraphMap, LeadsBy, members_in, pulling}, MemberLaws.{members_are_units}, Prelude.{IsDistance, IsDistances, Listed, name_cmp-IsAntisymmetric}}
pub use Rattle.unit_loads.specs.{FootprintLaws.{store_footprints_decide}, MemberLaws.{filter_map_among}}
pub use Rattle.world_law.specs.Prelude.{IsAboveEdits, IsAmong-append_right}
