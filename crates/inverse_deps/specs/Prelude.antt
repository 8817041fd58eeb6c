-- What the definitions use of std and of the crates below.
pub use Rattle.index_rows.specs.{Adjacency.{AreAdjacencyOf, neighbors}, AdjacencyLaws.{AllBelow-adjacency, neighbors-below, neighbors-past}, Indexing.{AreNamedSuccessors, AreNames, IsIndexing}, IndexingLaws.{among_mapped, ascending_named, index_of, mapped_from, members_named}, Prelude.{Listed}}
pub use Rattle.list_laws.specs.Members.{none_there}
pub use Rattle.name_closure.specs.ListedLaws.{Named}
pub use Rattle.parallel_load.specs.{AskedLaws.{asked_for}, declared.loaded.{Dependency.{Dependency}, NameLoad.{NameLoad, TheVariants.{Alias as OfAlias, Unit as OfUnit}}}, Indices.{AreDependenciesOf, AreDependencyAdjacency, name_of}, KeyLaws.{find_place, keys_ascend, keys_length, place_of_found, sorted_by_keys}, Loads.{IsLoad, lists_in, load_at, LoadMap, unit_in, unit_part}, Patched.{HaveSameAdjacency}, Prelude.{IsListed, LoadedUnit}, UniverseLaws.{dependencies_are_mains, IsDependency}}
pub use Rattle.profiles.specs.declared.profiles.Profile.{Profile, TheVariants.{Files, Manager}}
pub use Rattle.setting_rules.specs.{declared.kinds.DepKind.TheVariants.{Requires, Wants}, Kinds.{inverse, kinds}, Prelude.{name_cmp-IsAntisymmetric}, WordLaws.{inverses_are_undone}}
pub use Rattle.std.{proofs.{Common.{[], All, ap, arith, Bool, false, get_or, inl, inr, IsSome, IsTrue, length, length-append, List, map, None, Option, refl, Some, subst, suc, sym, true, zero, ℕ, ◌∙◌}, lemmas.{Bool.{cases_eq, cases_lt}, List.{Elements.{All-head, All-tail}, get_or_push}, Option.{none-some}}}, specs.{Cmp.{IsTotalOrder, Lexicographic.{nat_list_cmp_total}}, declared.{alloc.Global.{Global}, cmp.Ordering.{Ordering}, vec.Vec.{Vec}}, FinMap.{find, is_sorted}, Map.{keys_of}, Option.{option_and_then}, Ordering.{nat_cmp}, Prelude.{slice_index_or}}}
unfoldable pub use Rattle.std.specs.List.Sorted.{IsStrictlySortedBy}
pub use Rattle.unit_loads.specs.Prelude.{After, Before, BindsTo, BoundBy, ConflictedBy, Conflicts, ConsistsOf, DependencyList, DepKind, HostViewMap, InSlice, IsAmong, IsAmong-append_cases, IsAmong-append_left, IsAmong-append_right, Name, name_cmp, one_ascending_list, OnFailure, OnFailureOf, PartOf, PropagatesReloadTo, ReloadPropagatedFrom, RequiredBy, Requisite, RequisiteOf, SliceOf, TriggeredBy, Triggers, UpheldBy, Upholds, WantedBy}
pub use Rattle.unit_loads.specs.{declared.units.Status.{Status, TheVariants.{Bad, BuiltIn, Loaded, Masked, NotFound}}, Units.{fragment_by, is_loaded_by}}
pub use Rattle.unit_name.specs.{declared.kinds.Kind.TheVariants.{Target}, Names.{kind}}
