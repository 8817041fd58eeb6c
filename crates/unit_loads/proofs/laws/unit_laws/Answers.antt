use Rattle.unit_loads.proofs.Prelude.{footprints_decide, hosts_without_places_have_these_files, hosts_without_places_have_these_units, hosts_without_places_name_alike, lists_ascend, lists_have_what_is_named, near_paths_decide, one_unit, others_name_none, store_footprints_decide, units_have_one_type, units_list_all_kinds}
use Rattle.unit_loads.proofs.laws.unit_laws.Goals as goal

pub returns : goal.returns
returns c = record { one = one_unit; one_type = units_have_one_type; kinds = units_list_all_kinds; ascend = lists_ascend; exact = lists_have_what_is_named; loaded = others_name_none; near = near_paths_decide; footprints = footprints_decide; stores = store_footprints_decide; files = hosts_without_places_have_these_files; units = hosts_without_places_have_these_units; named = hosts_without_places_name_alike }
