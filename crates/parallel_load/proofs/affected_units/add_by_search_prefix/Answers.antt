use Rattle.parallel_load.proofs.{Prelude.{HasNoStop, IsSearchPrefixOf, List, subst, ℕ}, Seeking.{all_by_search_prefix, grown_for, none_found}, SideBySide.{ascending_is_non_decreasing}}
use Rattle.parallel_load.proofs.affected_units.add_by_search_prefix.Goals as goal

pub returns-in_default-clause-affected : goal.returns-in_default-clause-affected
returns-in_default-clause-affected c =
    none_found c.args.loaded.now.names c.secondary_names-second.result.now c.args.part.now c.args.affected.now.items c.secondary_names-second.ensures.second c.requires.no_type
    (subst HasNoStop c.as_slice.ensures.bytes c.in_default.ensures.search_prefix)

pub places_of-requires : goal.places_of-requires
places_of-requires c = record { ascending = ascending_is_non_decreasing c.names-names.result.now c.names-names.ensures.sorted }

pub returns-clause-grows : goal.returns-clause-grows
returns-clause-grows c =
    grown_for c.names-names.result.now c.args.loaded.now.names c.args.affected.now.items c.add_indices.new.affected.items c.add_owners.new.affected.items c.names-names.ensures.names
    c.in_ok-add_indices.ensures.grows c.in_ok-add_owners.ensures.grows

pub returns-clause-affected : goal.returns-clause-affected
returns-clause-affected c =
    let own = c.places_of.result in
    let others = c.places_of-2.result in
    let search_prefix = subst (λ (p : List ℕ). IsSearchPrefixOf p c.in-Some.search_prefix.now) c.as_slice.ensures.bytes c.in-Some.ensures.search_prefix in
    all_by_search_prefix c.names-names.result.now c.args.loaded.now.names c.names-names.ensures.names c.secondary_names-second.result.now c.secondary_names-second.ensures.second c.args.part.now
    c.add_indices.new.affected.items c.add_owners.new.affected.items c.in_ok-add_owners.ensures.grows c.in-Some.search_prefix.now own.start own.end others.start others.end c.requires.no_type search_prefix
    c.places_of.ensures.all c.places_of-2.ensures.all c.in_ok-add_indices.ensures.affected c.in_ok-add_owners.ensures.affected
