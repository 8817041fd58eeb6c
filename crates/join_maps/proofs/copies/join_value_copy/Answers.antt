use Rattle.std.proofs.Common.{slice_index_or}
use Rattle.join_maps.proofs.Prelude.{ap}
use Rattle.join_law.specs.{EditLaws.{between_is_between, between_is_map, joined_is_join, joined_is_map, known_here}, OutcomeLaws.{by_outcome, on_err_weaker, on_ok_weaker}}
use Rattle.join_maps.proofs.copies.join_value_copy.Goals as goal

pub returns-clause-map : goal.returns-clause-map
returns-clause-map g c =
    by_outcome c.join_copy.result
    (joined_is_map g.K.Ord.cmp g.met.K.Ord.total g.V.Join.is_valid g.V.Join.below g.met.V.Join.reflexive g.met.V.Join.transitive c.args.key.now _ _ c.requires.map _ c.requires.found (ap (slice_index_or c.args.pairs.now c.args.at) c.index-pairs-at.is) c.args.value.now _ c.join_copy.ensures.valid)
    (between_is_map g.K.Ord.cmp g.met.K.Ord.total g.V.Join.is_valid g.V.Join.below g.met.V.Join.reflexive g.met.V.Join.transitive c.args.key.now _ _ c.requires.map _ c.requires.found (ap (slice_index_or c.args.pairs.now c.args.at) c.index-pairs-at.is) c.args.value.now _ c.join_copy.ensures.valid)
    c.join_copy.ensures.ok c.join_copy.ensures.refused

pub returns-clause-ok : goal.returns-clause-ok
returns-clause-ok g c =
    on_ok_weaker c.join_copy.result
    (joined_is_join g.K.Ord.cmp g.met.K.Ord.total g.V.Join.is_valid g.V.Join.below g.met.V.Join.reflexive g.met.V.Join.transitive c.args.key.now _ _ c.requires.map _ c.requires.found (ap (slice_index_or c.args.pairs.now c.args.at) c.index-pairs-at.is) c.args.value.now _)
    c.join_copy.ensures.ok

pub returns-clause-refused : goal.returns-clause-refused
returns-clause-refused g c =
    on_err_weaker c.join_copy.result
    (between_is_between g.K.Ord.cmp g.met.K.Ord.total g.V.Join.is_valid g.V.Join.below g.met.V.Join.reflexive g.met.V.Join.transitive c.args.key.now _ _ c.requires.map _ c.requires.found (ap (slice_index_or c.args.pairs.now c.args.at) c.index-pairs-at.is) c.args.value.now _)
    c.join_copy.ensures.refused

pub returns-clause-known : goal.returns-clause-known
returns-clause-known g c = λ h.
    c.join_copy.ensures.known (known_here g.K.Ord.cmp g.met.K.Ord.total g.V.Join.is_valid g.V.Join.below g.met.V.Join.reflexive g.met.V.Join.transitive c.args.key.now _ _ c.requires.map _ c.requires.found (ap (slice_index_or c.args.pairs.now c.args.at) c.index-pairs-at.is) c.args.value.now h)
