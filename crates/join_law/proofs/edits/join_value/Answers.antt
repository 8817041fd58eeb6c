use Rattle.std.proofs.Common.{slice_index_or}
use Rattle.join_law.proofs.Prelude.{ap}
use Rattle.join_law.specs.EditLaws.{joined_is_join, joined_is_map, partly_is_join, partly_is_map}
use Rattle.join_law.proofs.edits.join_value.Goals as goal

pub returns-in-Ok-clause-map : goal.returns-in-Ok-clause-map
returns-in-Ok-clause-map g c =
    joined_is_map g.K.Ord.cmp g.met.K.Ord.total g.V.Join.is_valid g.V.Join.below g.met.V.Join.reflexive g.met.V.Join.transitive c.args.key _ _ c.requires.map _ c.requires.found (ap (slice_index_or c.args.pairs.now c.args.at) c.index-pairs-at.is) c.args.value _ c.join_from.ensures.valid c.in-Ok.ensures.ok

pub returns-in-Ok-clause-ok : goal.returns-in-Ok-clause-ok
returns-in-Ok-clause-ok g c =
    joined_is_join g.K.Ord.cmp g.met.K.Ord.total g.V.Join.is_valid g.V.Join.below g.met.V.Join.reflexive g.met.V.Join.transitive c.args.key _ _ c.requires.map _ c.requires.found (ap (slice_index_or c.args.pairs.now c.args.at) c.index-pairs-at.is) c.args.value _ c.in-Ok.ensures.ok

pub returns-in-Err-clause-map : goal.returns-in-Err-clause-map
returns-in-Err-clause-map g c =
    partly_is_map g.K.Ord.cmp g.met.K.Ord.total g.V.Join.is_valid g.V.Join.below g.met.V.Join.reflexive g.met.V.Join.transitive c.args.key _ _ c.requires.map _ c.requires.found (ap (slice_index_or c.args.pairs.now c.args.at) c.index-pairs-at.is) c.args.value _ c.in-Err.field-0.rest c.join_from.ensures.valid c.in-Err.ensures.refused

pub returns-in-Err-clause-refused : goal.returns-in-Err-clause-refused
returns-in-Err-clause-refused g c =
    partly_is_join g.K.Ord.cmp g.met.K.Ord.total g.V.Join.is_valid g.V.Join.below g.met.V.Join.reflexive g.met.V.Join.transitive c.args.key _ _ c.requires.map _ c.requires.found (ap (slice_index_or c.args.pairs.now c.args.at) c.index-pairs-at.is) c.args.value _ c.in-Err.field-0.rest c.in-Err.ensures.refused
