-- What the definitions use of std and of the crates below.
pub use Rattle.index_rows.specs.{IndexingLaws.{closure_named}, Successors.{AreSuccessorsOf, successors_from}}
pub use Rattle.profiles.specs.declared.profiles.Profile.{Profile, TheVariants.{Files, Manager}}
pub use Rattle.name_closure.specs.{Chains.{IsClosure}, ClosureLaws.{one_closure, reached_closed, reached_least}, ListedLaws.{Named}}
pub use Rattle.start_order.specs.{CycleLaws.{cycle_stuck, one_cycle}, NamedOrders.{both_named, cycle_named, least_named, start_list_named, stuck_named}, OrderLaws.{one_least, one_start_list}, Prelude.{AreNamedSuccessors, AreNames, index_of, IsAmong, IsChain, IsIndexing, IsLeast, IsMember, IsReached, Listed, listed_names, names_compare, neighbors, reached_named, turned}, StartOrder.{IsCycle, IsStartList, IsStuck}}
pub use Rattle.std.{proofs.Common.{[], ap, arith, Bool, false, IfErr, IfOk, inl, inr, IsTrue, length, List, map, refl, Result, subst, suc, sym, true, zero, ℕ, ◌∙◌}, specs.{Cmp.{IsTotalOrder}, declared.{alloc.Global.{Global}, cmp.Ordering.{Ordering, TheVariants.{Equal, Greater, Less}}, vec.Vec.{Vec}}, FinMap.{IsAntisymmetric}, Ordering.{nat_cmp}, Prelude.{slice_index_or}}}
