-- What the definitions use of std and of the crates below.
pub use Rattle.index_rows.specs.IndexingLaws.{among_mapped, chains_named, mapped_from, names_compare}
pub use Rattle.inverse_deps.specs.{Edges.{EdgeMap, IsUnitIn, names_in}, Indices.{count_of, IsIndexOf, name_at}, Prelude.{AreAdjacencyOf, AreNamedSuccessors, AreNames, BindsTo, DepKind, HostViewMap, index_of, inverse, IsAmong, IsIndexing, IsLoad, Listed, load_at, LoadedUnit, LoadMap, Name, name_cmp, name_cmp-IsAntisymmetric, NameLoad, neighbors, OfAlias, OfUnit, Requires, Requisite, unit_in, unit_part, Upholds, Wants}}
pub use Rattle.name_closure.specs.Chains.{distance_cmp, IsChain, IsDistance, IsDistances}
pub use Rattle.parallel_load.specs.{Loads.{coded_load, IsNameLoad, main_in, units_in}, PairLaws.{among_find, find_among}, Prelude.{is_less, IsClosure, main}, Universe.{IsInUniverse}, UniverseLaws.{mains_have_units, names_have_mains, sorted_from}}
pub use Rattle.std.{proofs.{Common.{[], All, ap, Bool, inl, inr, IsTrue, List, map, None, Option, refl, Some, subst, sym, ℕ, ◌∙◌}, lemmas.{Bool.{and_parts}, List.Elements.{All-head, All-tail}, Option.{none-some}}}, specs.{Cmp.{IsTotalOrder, Lexicographic.{nat_list_cmp_total}}, Coded.{code_by, Coded, coded_list, coded_ℕ, coded×}, declared.cmp.Ordering.{Ordering, TheVariants.{Less}}, FinMap.Entries.{below_all, is_sorted}, List.{AllByRecursion, cons_option, filter_map}, Option.{option_and_then, option_map}, Ordering.{nat_cmp, ordering_then}}}
unfoldable pub use Rattle.std.specs.List.Sorted.{IsStrictlySortedBy}
pub use Rattle.unit_loads.specs.declared.units.Status.{Status}
