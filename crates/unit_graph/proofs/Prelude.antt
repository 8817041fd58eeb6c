-- What the proofs use of std, of the crates below and of the definitions.
pub use Rattle.index_rows.specs.{AdjacencyLaws.{neighbors-below}, IndexingLaws.{closure_named, reached_named}, ListLaws.{IsAmong-push_cases}, Prelude.{among_from_contains}, StepLaws.{successors-push, within-both, within-one}, Successors.{AreSuccessorsOf, successors_from}}
pub use Rattle.inverse_deps.specs.{EdgeAdjacency.{AreAdjacencyBy, AreAdjacencyByKinds, edge_map}, EdgeLaws.{edges_join_units, inverses_are_one}, Edges.{AreEdges}, IndexLaws.{key_at_place, keys_length, load_indexing, sorted_by_keys}, NamingLaws.{listed_either, names_along}, TableLaws.{all_edges, all_kept, table_of_edges}, Tables.{IsEdgeTable}, Prelude.{Before, IsAmong-append_left, IsAmong-append_right, Named}}
pub use Rattle.parallel_load.specs.{Indices.{IsIndexOfMain, name_of}, Loads.{main_in}}
pub use Rattle.std.{proofs.{Common.{[], All, ap, arith, Bool, Bor, get_or, IfOk, inl, inr, IsTrue, length, List, map, MatchOption, None, Option, refl, Some, subst, sym, take, ℕ, ◌∙◌}, lemmas.{List.{Elements.{Contains-get_or}, map-append, take_all, take_more}, Option.{none-some}}}, specs.{Cmp.Lexicographic.{nat_list_cmp_total}, Map.{keys_of}, Ordering.{nat_cmp}}}
pub use Rattle.unit_graph.specs.{DistanceNames.{distances_named}, GraphLaws.{known_names}, Graphs.{GraphMap, HasInverses, IsIndexFor, IsKnown, LeadsBy, LeadToUnits, pulling, ResolvesTo}, MemberLaws.{members_are_units}, Prelude.{among_mapped, AreAdjacencyOf, AreNamedSuccessors, AreNames, chains_named, count_of, DepKind, EdgeMap, inverse, IsAmong, IsClosure, IsDistances, IsIndexing, Listed, LoadedUnit, LoadMap, mapped_from, Name, name_at, name_cmp, names_in, neighbors, units_in}, Tables.{IsTable}}
