-- What the definitions use of std and of the crates below.
pub use Rattle.join_law.specs.VersionOrderLaws.{both_exact}
pub use Rattle.list_laws.specs.{FirstLaws.{all_undefined, place_decides, said_from}, FirstSaid.{first_is, first_said, none_says}}
pub use Rattle.load_path.specs.{declared.paths.PathFault.{PathFault}, PathLaws.{coded_path, path_cmp-IsAntisymmetric, path_cmp_total}, Paths.{IsPath, path_cmp, path_of, PathParts, text_of}, TextLaws.{are_their_texts}}
pub use Rattle.profiles.specs.declared.profiles.Profile.{Profile}
pub use Rattle.std.{proofs.{Common.{[], add-one, ap, append_assoc, arith, Bool, cond, drop, Err, false, get_or, inl, inr, is_err, IsSome, IsTrue, length, List, nat_le, nat_lt, None, Ok, Option, position, refl, Result, Some, subst, suc, sym, take, true, zero, ℕ, ⊎_elim, ◌∙◌}, lemmas.{Bool.{and_parts, cases_Bool, cond-false, cond-true, Decides.{nat_tests}, eqb-true, or_parts}, Iterator.Adapters.{position_from-zero}, Option.{same_Some}, Slice.Eq.{bytes_eq-Decides}}, Math.Seq.{drop-append-add, take-append_seam}}, specs.{Cmp.{IsTotalOrder, Lexicographic.{nat_list_cmp_total, slice_cmp}, nat_cmp_total, on_total, then_total, tied_itself}, Coded.{code_by, Coded, coded×}, declared.cmp.Ordering.{Ordering, TheVariants.{Equal, Less}}, FinMap.{nat_cmp-IsAntisymmetric, slice_cmp-IsAntisymmetric}, List.{list_all, list_any, position_from}, Option.{option_or}, Ordering.{nat_cmp, ordering_then}, Prelude.{IsErr}, Str.{bytes_eq}}}
