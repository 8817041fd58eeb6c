-- What the proofs use of std, of the crates below and of the definitions.
pub use Rattle.plain_values.specs.Spelling.{spelled}
pub use Rattle.std.{proofs.{Common.{[], ap, arith, drop, false, Fits, get_or, length, length-append, List, min, refl, subst, suc, sym, take, w8, zero, ℕ, ◌∙◌}, lemmas.{List.{get_or-drop, take-append-le, take_all, take_rest}, Slice.{take-put_mid}}}, specs.{Cmp.{Lexicographic.{slice_cmp}, nat_cmp_is, ranks}, declared.cmp.Ordering.{Ordering, TheVariants.{Equal, Greater, Less}}, FinMap.{nat_cmp-IsAntisymmetric, slice_cmp-IsAntisymmetric}, Ordering.{eq_by_cmp, is_eq, MatchOrdering, nat_cmp, ordering_then}}}
