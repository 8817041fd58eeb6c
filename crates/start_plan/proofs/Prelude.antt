-- What the proofs use of std, of the crates below and of the definitions.
pub use Rattle.index_rows.specs.{BitSetLaws.{IsMember-none, IsMember-set, IsMember-set_other, IsMember-set_same, IsMember-within}, IndexingLaws.{one_index}, ListLaws.{IsAmong-push_cases}, Prelude.{among_from_contains, IsAmong-append_left, IsAmong-append_right}, StepLaws.{neighbors-start, opposite_from, opposite_is, successors-start, transposed_from}, Successors.{AreOpposite}}
pub use Rattle.inverse_deps.specs.{IndexLaws.{load_indexing, unit_at, unit_index}, MakingLaws.{AreMade, made_more}, NamingLaws.{names_along, names_either}}
pub use Rattle.name_closure.specs.ListedLaws.{names_all}
pub use Rattle.plan_choice.specs.{Answers.{WaitsForever}, declared.answers.IndexedPlan.{IndexedPlan}, IndexedCases.{case_of as case_of_indexed}, NamedCases.{named_refusal}, NamedPlans.{plan_named, refusal_is_named, starts_named}, Prelude.{AreNamedSuccessors, AreNames, AreSuccessorsOf, index_of, IsChain, IsCycle, IsIndexing, IsMember, Listed, Named, neighbors, successors_from}, Sets.{IsNeeded, IsStoppedByConflict, NeedsNext, Precedes, Starts, TakesAlong}}
pub use Rattle.setting_rules.specs.OrderLaws.{any-from_IsAmong, IsAmong-from_any}
pub use Rattle.start_order.specs.{OrderLaws.{stuck_chosen}, StartOrder.{IsBlockedAlong}}
pub use Rattle.start_plan.specs.{Bits.{AreBitsBy}, declared.requests.{Refusal.{Refusal, TheVariants.{Bad, Conflict, Cycle, ManualStart, Masked, Memory, NotFound, Template}}, Request.{Request}}, Indexed.{IsIndexedPlan, IsIndexedRefusal}, Outcomes.{IsFault, IsRefusalOf}, PlanLaws.{one_case, one_plan, one_refusal_returned, perpetual_units_never_stop, plan_or_refusal, plans_by_files_keep_promises, plans_keep_promises}, Prelude.{After, Case, conflict, Conflicts, count_of, cycle, DepKind, EdgeMap, Files, is_loaded_by, is_same, IsAmong, IsKnown, IsNamedCase, IsPlan, IsRefusal, IsUnitIn, LoadedUnit, LoadMap, Manager, manual_start, Name, name_at, name_cmp, named_by, names_in, need_fault, Profile, Requisite, requisite, shape, status_in, target_fault, unit_in, Why}, Requests.{AsksTemplate, case_of, edges_of, HasTemplate, is_loaded, is_manual, is_perpetual_by, IsOfGraph, main_of, needing, tying, weak}, ReturnedRefusals.{IsFaultOf, IsReturnable, IsReturnedBy}}
pub use Rattle.std.{proofs.{Common.{[], All, ap, arith, Bool, Err, false, get_or, IfErr, IfOk, inl, inr, IsTrue, length, length-set, List, map, MatchOption, None, Ok, Option, refl, replicate, Result, set, Some, subst, suc, sym, take, true, unwrap_or, zero, ℕ, ◌∙◌}, lemmas.{List.{Elements.{Contains-get_or}, take_more}, Option.{none-some}}}, specs.{Cmp.Lexicographic.{nat_list_cmp_total}, declared.{alloc.{AllocError.{AllocError}, Global.{Global}}, vec.Vec.{Vec}}, FinMap.Entries.{is_sorted}, List.{list_any}, Option.{option_map}, Ordering.{nat_cmp}}}
pub use Rattle.unit_graph.specs.{Graphs.{GraphMap, HasInverses, IsIndexFor, LeadsBy, ResolvesTo}, Prelude.{among_mapped, AreAdjacencyOf, inverse, mapped_from, NameLoad, unit_part}}
