-- What the definitions use of std and of the crates below.
pub use Rattle.list_laws.specs.{Ascending.{one_ascending_list}, Filters.{filter_twice}, Members.{among_from_contains, contains_from_among, IsAmong}, Orderings.{is_equal, is_less}}
pub use Rattle.profiles.specs.declared.profiles.Profile.{Profile, TheVariants.{Files, Manager}}
pub use Rattle.section_reader.specs.{declared.assignments.Assignment.{Assignment}, Parts.{has_bytes, is_white}}
pub use Rattle.std.{proofs.{Common.{[], All, ap, append-nil, arith, Bool, codes, cond, drop, Err, false, filter, inl, inr, is_none, is_some, IsTrue, le-leb, leb, length, length-append, List, map, None, not, Ok, Option, refl, Result, slice_get, Some, subst, suc, sym, T, true, unwrap_or, zero, ℕ, ◌∙◌}, lemmas.{Bool.{and_from, and_parts, leb-true, not-true, true≢false}, Cmp.{tied_itself}, List.{Elements.{All-head, All-tail, filter-append, filter_agree}, Folds.{list_any-append}, Kept.{Contains-dedup, Contains-from_dedup, IsStrictlySortedBy-dedup}, map-append, Sorted.{list_any-IsPermutation}}, Slice.Eq.{bytes_eq-Decides}}, Math.{Bool.{and-false}, Seq.{drop-append-add}}}, specs.{Cmp.{eq_by_cmp_equiv, Lexicographic.{nat_list_cmp_total}}, declared.cmp.Ordering.TheVariants.{Less}, FinMap.{contains_key-keys, Entries.{below_all, is_some-find}, entries_sorted, get-from_entries, is_sorted}, List.{AllByRecursion, Contains, dedup, filter_map, flat_map, list_any, slice_split, starts_with}, Ordering.{eq_by_cmp, is_eq}, Prelude.{find, IsPermutation, IsSorted, nat_eq}, Result.{result_ok}, Str.{bytes_eq, str_eq_ignore_ascii_case}}}
unfoldable pub use Rattle.std.specs.List.Sorted.{IsStrictlySortedBy}
pub use Rattle.unit_name.specs.{declared.names.Shape.{Shape, TheVariants.{Instance, Plain, Template}}, Forms.{if_short, instance_at, instance_name, is_instance, with_instance}, NameLaws.{fits, instance_is_instance, name_cmp-IsAntisymmetric, parts_of_names_fit, prefix_is_instance}, Names.{instance, is_empty, is_name, IsName, Name, name_cmp, prefix, shape, suffix}, SpecifierLaws.{is_percent, plain_texts_stay}, Specifiers.{expand}}
