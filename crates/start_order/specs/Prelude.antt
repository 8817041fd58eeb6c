-- What the definitions use of std and of the crates below.
pub use Rattle.index_rows.specs.{Adjacency.{IsMember, neighbors, times}, Indexing.{AreNamedSuccessors, AreNames, IsIndexing}, IndexingLaws.{among_mapped, index_of, listed_names, mapped_from, names_compare, one_index, reached_named}, Least.{IsLeast}, Prelude.{IsAmong, IsAmong-append_cases, IsAmong-append_left, IsChain, IsReached, Listed, turned}}
pub use Rattle.std.{proofs.{Common.{[], ap, append-nil, append_assoc, arith, Bool, cond, false, inl, inr, length, List, map, not, refl, slice_index, subst, suc, sym, zero, ℕ, ◌∙◌}, lemmas.Cmp.{tied_itself}}, specs.{Cmp.{IsTotalOrder}, declared.{alloc.Global.{Global}, cmp.Ordering.{Ordering, TheVariants.{Equal, Greater, Less}}, vec.Vec.{Vec}}, FinMap.{IsAntisymmetric}, Ordering.{nat_cmp}, Prelude.{slice_index_or}}}
