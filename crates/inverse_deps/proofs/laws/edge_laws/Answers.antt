use Rattle.inverse_deps.proofs.Prelude.{asking_changes_no_table, asking_makes_no_edges, defaults_alone_are_ordered, edges_come_from_names, edges_join_units, files_name_all, given_orders_stand, inverses_are_one, one_list_by_kind, one_list_of_edges, targets_come_after_wanted, targets_follow_one_way, units_come_after_mounts, units_require_mounts}
use Rattle.inverse_deps.proofs.laws.edge_laws.Goals as goal

pub returns : goal.returns
returns c = record {
  inverses = inverses_are_one;
  units = edges_join_units;
  one = one_list_of_edges;
  one_by_kind = one_list_by_kind;
  names = edges_come_from_names;
  asked = asking_makes_no_edges;
  table_asked = asking_changes_no_table;
  files = files_name_all;
  after_mounts = units_come_after_mounts;
  required_mounts = units_require_mounts;
  after_wanted = targets_come_after_wanted;
  given = given_orders_stand;
  defaults = defaults_alone_are_ordered;
  one_way = targets_follow_one_way;
}
