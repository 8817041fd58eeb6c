-- What the definitions use of std and of the crates below.
pub use Rattle.std.{proofs.Common.{[], ap, IsTrue, List, refl, ℕ}, specs.{Cmp.Lexicographic.{slice_cmp}, declared.cmp.Ordering.{Ordering, TheVariants.{Equal, Greater, Less}}, FinMap.{nat_cmp-IsAntisymmetric, slice_cmp-IsAntisymmetric}, Ordering.{eq_by_cmp, is_eq, nat_cmp}}}
