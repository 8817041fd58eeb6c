-- What the proofs use of std, of the crates below and of the definitions.
pub use Rattle.delta_gossip.specs.{Convergence.{AgreesLater as HoldsLater, HoldsSums, HoldsSumsByEvents}, declared.worlds.World.{World}, Shows.{IsWorld, world_after}}
pub use Rattle.edit_sums.specs.{Entries.{entry_cmp}, EntryLaws.{below_antisym, entry_cmp-IsAntisymmetric, entry_cmp_total}, GreatestLaws.{get-with_edit}, SumLaws.{join-left, store_below_refl}, Sums.{join, with_edit}}
pub use Rattle.fleet_answers.specs.{AnswerLaws.{asked_among, one_answer, other_hosts_change_nothing, own_are_known}, Answers.{AreKnown, AreLinkedUnits, asked, IsAnswer, IsReturned, IsSnapshot, IsSnapshotOf, IsUnitWithEdges, names_asked, viewer_asked}, declared.{caches.Cached.{Cached}, questions.{Answer.{Answer}, LinkedUnit.{LinkedUnit}, Question.{Question}}}, Fleets.{AgreesLater, AnswersByEvents, AnswersItsStore, AnswersItsSum, HoldsLeast, HoldsSameLater}, HostLaws.{hosts_without_places_have_the_fleets_answers}, Prelude.{AreEdges, AreSameEdits, Event, HasTemplate, host_view_of, HostViewMap, IsKnown, IsSumOf, LoadMap, Name, name_cmp, NodeHolds, one_viewer, Profile, Request, Took, took_after, unit_in, Viewer, visible_at}, ShownLaws.{snapshots_stay}, UnitLaws.{units_are_those_shown}, Tracked.{IsCachedFor, IsCacheFor, IsSnapshotBefore, ShowTheSameBut}}
pub use Rattle.fragment_choice.specs.Prelude.{Gone, shown}
pub use Rattle.inverse_deps.specs.{IndexLaws.{unit_at}, Indices.{name_at}, TableLaws.{adjacency_makes_the_table, asking_changes_no_table}, Tables.{IsEdgeTable}}
pub use Rattle.parallel_load.specs.{declared.{loaded.NameLoad.{NameLoad}, faults.LoadFault.{LoadFault, TheVariants.{Memory, TooManyUnits, Workers}}}, Loads.{unit_part}, AskedLaws.{AreSources, asked_for, sources_make_the_load, sources_make_the_size}, Prelude.{name_eq-Decides}, Refreshes.{IsBefore}, Refusals.{OnTooMany}, SameLaws.{first_true, same_by, second_true}, Universe.{IsTooLarge}}
pub use Rattle.load_refreshes.specs.{declared.refreshing.Refreshed.{Refreshed}, RefreshedLoads.{IsRefreshed}}
pub use Rattle.profiles.specs.declared.profiles.Profile.TheVariants.{Files}
pub use Rattle.replica_store.specs.Replicas.{next_version, Replicated, with_put}
pub use Rattle.start_plan.specs.Requests.{IsOfGraph}
pub use Rattle.std.{proofs.{Common.{[], All, ap, append-nil, arith, Bool, cond, drop, Err, false, get_or, Global, IfErr, IfOk, inl, inr, is_ok, IsTrue, length, List, map, MatchOption, MatchResult, None, Ok, OnErr, OnOk, Option, refl, Result, reverse, rules, slice_get, Some, subst, suc, sym, take, true, unwrap_or, Vec, vec_len, zero, ℕ, ◌∙◌}, lemmas.{Bool.{cases_eq, ne_eqb}, List.{drop-append-le, drop-drop, drop_all, map-append, take_all, take_more, Elements.{All-append, All-drop, All-push, All-take, All-weaker, filter_map-append}, length-append, length-drop}, Option.{slice_get_read}, Result.{IfErr-weaker, IfOk-weaker}}}, specs.{Cmp.{Lexicographic.{pointwise}, tied_itself}, declared.cmp.Ordering.{Ordering, TheVariants.{Equal, Greater, Less}}, List.{cons_option, filter_map, ItemBy, remove}, Option.{option_and_then, option_eq}, Ordering.{eq_by_cmp, is_eq}, Prelude.{IfSome}}}
pub use Rattle.world_law.specs.{Prelude.{Edit, Entry, entry_of, EntryMap, IsAboveEdits, IsAmong, IsAmong-append_left, IsAmong-append_right, IsBelow, IsStoreBelow, larger, place_cmp, PlaceParts, sum_of, tied}, Worlds.{EachStoreIsLeast, Node, SameTookSameStore, took_by}}
