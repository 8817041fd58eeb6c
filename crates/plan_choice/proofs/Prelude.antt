-- What the proofs use of std, of the crates below and of the definitions.
pub use Rattle.index_rows.specs.{Adjacency.{AreAdjacencyOf, neighbors as neighbors_of}, AdjacencyLaws.{All-neighbors}, BitSetLaws.{IsMember-none, IsMember-within, member_or_not, member_read, non_members_read}, ListLaws.{below_cmp, cmp_below, IsAmong-push_cases}, Prelude.{All-head, All-tail, among_from_contains, contains_from_among, IsAmong, IsAmong-append_cases, IsAmong-append_left, IsAmong-append_right, IsClosure, IsReached, Listed}, StepLaws.{more_kinds, one_kind, opposite_is, successors-below, successors-start, within-both, within-one}, Successors.{LeadsInside, LeadsOn}}
pub use Rattle.name_closure.specs.SourceLaws.{AreSameNodes, AreSameSuccessors, same_closure, same_reached}
pub use Rattle.plan_choice.specs.{Answers.{AreNeededConflicts, conflict, IsClearBelow, IsFirstPair, IsRefusal, IsUnloadedNeed, LacksRequisite, need_fault, requisite, WaitsForever}, BitSets.{AreBitsOf, ArePairsOf, IsListOf}, declared.cases.IndexedCase.{IndexedCase}, IndexedCases.{case_of, count_of}, Losing.{SetsBits}, Prelude.{Files, IsCycle, IsLeast, IsMember, IsStartList, IsStuck, Manager, neighbors, reached_closed, reached_least, successors_from}, SetLaws.{needs_all, needs_itself, needs_next}, Sets.{AreInConflict, GoesOn, IsChosen, IsDropped, IsExtra, IsGood, IsLoser, IsNeeded, IsOutside, IsPulled, IsStoppedByConflict, Keeps, Lacks, LosesTo, MissesRequisite, Needs, NeedsNext, Pulls, Starts, TakesAlong}, Soundness.{IsIdle, IsSound}, Walks.{HasIdleRequisite, IsAbsent, IsFree, IsGoing, NeedsSome}}
pub use Rattle.start_order.specs.{CycleLaws.{cycle_along}, OrderLaws.{least_along}, Precedes.{Precedes}, StartOrder.{CanStart}}
pub use Rattle.std.{proofs.{Common.{[], All, ap, arith, Bool, Err, false, get_or, get_or-set_other, get_or-set_same, IfOk, inl, inr, is_some, IsTrue, length, length-set, List, MatchOption, None, not, Ok, Option, refl, Result, set, Some, subst, sym, take, true, ℕ, ◌∙◌}, lemmas.{Bool.{cases_eq}, List.{Elements.{Contains-get_or}, get_or_default, take_all, take_more}}}, specs.{declared.{alloc.Global.{Global}, vec.Vec.{Vec}}, List.Sorted.{IsStrictlySortedBy}, Ordering.{nat_cmp}}}
