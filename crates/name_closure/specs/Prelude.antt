-- What the definitions use of std and of the crates below.
pub use Rattle.list_laws.specs.{Ascending.{one_ascending_list}, Members.{IsAmong, IsAmong-append_cases, IsAmong-append_left, IsAmong-append_right}}
pub use Rattle.std.{proofs.{Common.{[], All, ap, arith, inl, inr, length, List, refl, subst, suc, sym, zero, ℕ, ◌∙◌}, lemmas.{Cmp.{tied_itself}, List.{Elements.{All-append, All-cons, All-head, All-nil, All-tail}, map-append}, Map.Keys.{sorted_head, sorted_tail}}}, specs.{Cmp.{IsTotalOrder, nat_cmp_total, on_total, then_total}, declared.cmp.Ordering.{Ordering, TheVariants.{Less}}, List.{AllByRecursion, flat_map, Sorted.{IsStrictlySortedBy}}, Map.{keys_of}, Ordering.{nat_cmp, ordering_then}}}
