-- What the definitions use of std and of the crates below.
pub use Rattle.dropins.specs.{declared.{folder_lists.Folder.{Folder, TheVariants.{Requires, Wants}}, precedence.Search.{Search, TheVariants.{DropIns, Links}}}, FolderLists.{folders}, OrderLaws.{drop_in_paths_are_files}, OverLaws.{names_or_else_types, NoneStands, over_once}, Prelude.{File}, Taken.{as_found, Candidate, Candidate.{At, Mask}, dirs_with, ending, file_name, IsDropInAt, IsDropInOf, IsLinked, IsTaken, IsTakenOver, name_dirs, type_dirs}, WalkLaws.{found_iff_taken, found_is_taken, found_name, none_stands}, Walks.{taken}}
pub use Rattle.fleet_answers.specs.{Answers.{AreLinkedUnits, ArePulled, asked, viewer_asked, IsAnswer, IsLinkedUnit, IsPlanBy, IsPlanReturned, IsReturned, IsUnitWithEdges, IsWholeAnswer, names_asked, without_host}, declared.questions.{Answer.{Answer}, LinkedUnit.{LinkedUnit}, Question.{Question}}}
pub use Rattle.fragment_choice.specs.{Choices.{choice, is_same}, declared.{choices.Choice.{Choice}, resolutions.Resolution.{Resolution}}, LikenessLaws.{mains_are_alike}, LinkTargets.{HasOwnLinkTargets, link_targets, NamedWords}, ResolutionLaws.{resolution_resolves}, Resolutions.{main, resolution, Resolves, Resolves.{ends_at, goes_on}}, UnitNames.{AreNames}}
pub use Rattle.host_trees.specs.{ChoiceLaws.{choice_at_fleet, IsShown, resolution_at_fleet, trees_have_the_same_fragments, trees_name_alike, trees_resolve_alike, trees_show_the_same_names, TreesHaveTheSameFragments, TreesNameAlike, TreesResolveAlike, TreesShowTheSameNames}, Reads.{HasDropIn, HasLink, ReadsAlike, ReadsItsTree, ShowsTree}}
pub use Rattle.manager_additions.specs.Additions.{facts_of, has_defaults_by, mounts_by, with_implied}
pub use Rattle.unit_values.specs.BuiltIn.{is_perpetual, perpetual_units}
pub use Rattle.implied_names.specs.{Implied.{implied_names}, ImpliedLaws.{implied_are_names, perpetual_units_are_names}}
pub use Rattle.inverse_deps.specs.{Dependencies.{HasDefaults, IsByPath, IsByTarget, IsDependent, IsEdgeAmong, IsGiven, IsGivenBefore, IsMountFor, MayFollow, NamesUnit, NeedsMount, unit_among}, Edges.{AreEdges, AreEdgesFrom, AreEdgesOf, EdgeMap, IsEdge, IsUnitIn}}
pub use Rattle.list_laws.specs.Members.{among_from_contains, contains_from_among, IsAmong, IsAmong-append_cases}
pub use Rattle.load_places.specs.{declared.viewers.Viewer.{Viewer}, Levels.{of_fleet}}
pub use Rattle.name_closure.specs.{Chains.{IsReached}, ClosureLaws.{reached_closed, reached_least}, Loading.{AreLoaded}, SourceLaws.{same_closure, same_reached}, StableLaws.{closure_stays, reached_stays, reached_within, SuccessorsStayWithin}}
pub use Rattle.parallel_load.specs.{declared.loaded.NameLoad.{NameLoad}, Loads.{AreNamedAlone, by_mains, IsLoad, IsLoadedUnit, IsNamedAlone, IsNameLoad, list_by_mains, LoadMap, main_in, main_part, unit_in, unit_part}, OwnLinkTargets.{AreOwnLinkTargets}, PairLaws.{among_find, find_among}, Universe.{AreUniverse, asked_by, IsInUniverse, IsSource, IsTooLarge, IsVisibleName, LeadsTo, Names}, UniverseLaws.{mains_have_units, sorted_from, units_are_their_own_mains}}
pub use Rattle.path_maps.specs.{HostLaws.{content_viewed}, HostViews.{content_at, host_view_of, HostViewMap, view, viewed_at, viewed_place, viewer_of}, Prelude.{Content, Entry, EntryMap, Fleet, path_cmp, path_cmp-IsAntisymmetric, PathParts, PlaceParts, shown}, Scopes.{within}}
pub use Rattle.profiles.specs.declared.profiles.Profile.{Profile, TheVariants.{Files, Manager}}
pub use Rattle.setting_rules.specs.{declared.notes.SettingNoteKind.TheVariants.{BadName}, Dependencies.{in_byte_order, named_by_text, or_bad_name}, OrderLaws.{names_ascend, names_stay}, Prelude.{expand}, Words.{argument, for_unit, named_at}}
pub use Rattle.start_plan.specs.{declared.requests.{Plan.{Plan as PlanMap}, Refusal.{Refusal, TheVariants.{Bad, Conflict, Cycle, ManualStart, Masked, Memory, NotFound, Requisite, Template}}, Request.{Request}}, Outcomes.{IsFault, IsPlanned, IsRefusalOf, IsRefused}, Prelude.{Case, IsPlan, IsRefusal, Why}, Requests.{case_of, HasTemplate, is_loaded, is_manual, is_perpetual_by, main_of}}
pub use Rattle.std.{proofs.{Common.{[], All, ap, Bool, cond, Err, false, filter, inl, inr, is_some, IsTrue, List, map, None, not, Ok, Option, refl, Some, subst, sym, true, unwrap_or, ℕ, ◌∙◌}, lemmas.{Bool.{and_from, and_parts, true≢false}, List.{Elements.{All-cons, All-head, All-nil, All-tail, All-weaker}, map-append}, Option.{same_Some}}}, specs.{Cmp.Lexicographic.{nat_list_cmp_total}, FinMap.{find}, List.{cons_option, Contains, filter_map, flat_map, list_any, Sorted.{IsStrictlySortedBy}}, Map.{keys_of}, Option.{option_and_then, option_map, option_or}, Ordering.{is_eq}}}
pub use Rattle.unit_graph.specs.Graphs.{status_in}
pub use Rattle.unit_loads.specs.{declared.units.{Status.{Status}, Unit.{Unit as LoadedUnit}, UnitNote.{UnitNote}}, MemberLaws.{among_filter, among_map, filter_among, map_among}, ElsewhereLaws.{chosen as chosen_by}, NamedUnits.{IsImplied, IsListed, IsLoadedFrom, IsNamed, IsNamedByLink, IsNamedByWord, kind_of}, NameLaws.{lists_have_what_is_named}, Prelude.{After, assignments_of, Before, DependencyList, DepKind, name_cmp, notes_of, refuses, rows_of, settings_of}, UnitLaws.{one_unit}, WithoutFiles.{is_loaded_without_file}, Units.{AreDropIns, AreLinks, bytes_at, file_bytes, file_notes, files_with, fragment_by, HasAllOf, HasNothing, HasSettings, is_loaded_by, IsChoicesStatus, IsStatus, IsStatusBy, IsUnit, items_of, lists_with, notes_at, setting_notes, settings_in}}
pub use Rattle.unit_name.specs.{NameLaws.{instance_has_parts}, Names.{is_name, IsName, Name, shape}}
unfoldable pub use Rattle.setting_rules.specs.Dependencies.{named_by}
