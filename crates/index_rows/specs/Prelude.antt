-- What the definitions use of std and of the crates below.
pub use Rattle.list_laws.specs.{Members.{among_from_contains, contains_from_among}, Orderings.{turned}}
pub use Rattle.name_closure.specs.{Chains.{IsChain, IsClosure, IsReached}, ListedLaws.{Listed}, Prelude.{IsAmong, IsAmong-append_cases, IsAmong-append_left, IsAmong-append_right}}
pub use Rattle.std.{proofs.{Common.{[], All, ap, append-nil, arith, Bool, cond, eqb, false, filter, get_or, inl, inr, IsTrue, length, List, map, MatchOption, min, None, Option, refl, replicate, set, Some, subst, suc, sym, take, true, zero, ℕ, ◌∙◌}, lemmas.{Bool.{cases_eq, cases_lt, eq-eqb, ne_eqb}, Cmp.{ranked, tied_itself}, List.{Concat.{flat_map-append}, Elements.{All-append, All-contains, All-head, All-tail, Contains-get_or}, get_or_default}}}, specs.{Cmp.{IsTotalOrder, nat_cmp_is}, declared.cmp.Ordering.{Ordering, TheVariants.{Equal, Greater, Less}}, List.{AllByRecursion, flat_map, slice_range}, Ordering.{nat_cmp}, Prelude.{slice_index_or}}}
unfoldable pub use Rattle.std.specs.List.Sorted.{IsStrictlySortedBy}
