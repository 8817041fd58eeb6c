use Rattle.parallel_load.proofs.Seeking.{all_by_type, grown_for}
use Rattle.parallel_load.proofs.affected_units.add_of_type.Goals as goal

pub returns : goal.returns
returns c =
    let names = c.names-names.result.now in
    let second = c.secondary_names-second.result.now in
    let between = c.add_indices.new.affected.items in
    let new = c.add_owners.new.affected.items in
    record {
      grows = grown_for names c.args.loaded.now.names c.args.affected.now.items between new c.names-names.ensures.names c.in_ok-add_indices.ensures.grows c.in_ok-add_owners.ensures.grows;
      affected = all_by_type names c.args.loaded.now.names c.names-names.ensures.names second c.secondary_names-second.ensures.second c.args.part.now between new c.in_ok-add_owners.ensures.grows
          c.args.word.now c.requires.word c.in_ok-add_indices.ensures.affected c.in_ok-add_owners.ensures.affected;
    }
