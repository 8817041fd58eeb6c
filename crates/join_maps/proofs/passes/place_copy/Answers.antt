use Rattle.std.proofs.Common.{◌∷◌}
use Rattle.join_law.specs.OutcomeLaws.{on_err}
use Rattle.join_maps.proofs.{PassEdits.{added_is_join, added_is_map, between_is_between, between_is_map, joined_is_join, joined_is_map}, Prelude.{[], below_append, below_further}}
use Rattle.join_maps.proofs.passes.place_copy.Goals as goal

pub returns-in_err-join_copy-clause-map : goal.returns-in_err-join_copy-clause-map
returns-in_err-join_copy-clause-map g c = between_is_map g.K.Ord.cmp g.met.K.Ord.total g.V.Join.is_valid g.V.Join.below g.met.V.Join.reflexive g.met.V.Join.transitive c.args.key.now c.args.passed.now.items c.args.ahead.now.items c.requires.map c.requires.below _ c.if-is_first.ensures.at c.index_mut-place.ensures.value c.args.value.now c.join_copy.new.self c.join_copy.ensures.valid c.in_err-join_copy.ensures.refused

pub returns-in_err-join_copy-clause-refused : goal.returns-in_err-join_copy-clause-refused
returns-in_err-join_copy-clause-refused g c = on_err _ (between_is_between g.K.Ord.cmp g.met.K.Ord.total g.V.Join.is_valid g.V.Join.below g.met.V.Join.reflexive g.met.V.Join.transitive c.args.key.now c.args.passed.now.items c.args.ahead.now.items c.requires.map c.requires.below _ c.if-is_first.ensures.at c.index_mut-place.ensures.value c.args.value.now c.join_copy.new.self c.in_err-join_copy.ensures.refused)

pub returns-then-is_first-clause-map : goal.returns-then-is_first-clause-map
returns-then-is_first-clause-map g c = joined_is_map g.K.Ord.cmp g.met.K.Ord.total g.V.Join.is_valid g.V.Join.below g.met.V.Join.reflexive g.met.V.Join.transitive c.args.key.now c.args.passed.now.items c.args.ahead.now.items c.requires.map c.requires.below _ c.if-is_first.ensures.at c.index_mut-place.ensures.value c.args.value.now c.join_copy.new.self c.join_copy.ensures.valid c.in_ok-join_copy.ensures.ok

pub returns-then-is_first-clause-ok : goal.returns-then-is_first-clause-ok
returns-then-is_first-clause-ok g c = joined_is_join g.K.Ord.cmp g.met.K.Ord.total g.V.Join.is_valid g.V.Join.below g.met.V.Join.reflexive g.met.V.Join.transitive c.args.key.now c.args.passed.now.items c.args.ahead.now.items c.requires.map c.requires.below _ c.if-is_first.ensures.at c.index_mut-place.ensures.value c.args.value.now c.join_copy.new.self c.in_ok-join_copy.ensures.ok

pub returns-in_err-join_copy-clause-below : goal.returns-in_err-join_copy-clause-below
returns-in_err-join_copy-clause-below g c = λ next less. below_further g.K.Ord.cmp g.met.K.Ord.total c.args.key.now next less c.args.passed.now.items c.requires.below

pub returns-then-is_first-clause-below : goal.returns-then-is_first-clause-below
returns-then-is_first-clause-below g c = λ next less. below_further g.K.Ord.cmp g.met.K.Ord.total c.args.key.now next less c.args.passed.now.items c.requires.below

pub returns-in_err-copy-clause-below : goal.returns-in_err-copy-clause-below
returns-in_err-copy-clause-below g c = λ next less. below_further g.K.Ord.cmp g.met.K.Ord.total c.args.key.now next less c.args.passed.now.items c.requires.below

pub returns-in_err-try_clone-clause-below : goal.returns-in_err-try_clone-clause-below
returns-in_err-try_clone-clause-below g c = λ next less. below_further g.K.Ord.cmp g.met.K.Ord.total c.args.key.now next less c.args.passed.now.items c.requires.below

pub returns-clause-map : goal.returns-clause-map
returns-clause-map g c = rw (c.in-Ok.ensures.items, c.in_ok-copy.ensures.copy, c.in_ok-try_clone.ensures.copy) (added_is_map g.K.Ord.cmp g.met.K.Ord.total g.V.Join.is_valid g.V.Join.below g.met.V.Join.reflexive g.met.V.Join.transitive c.args.key.now c.args.passed.now.items c.args.ahead.now.items c.requires.map c.requires.below c.args.value.now c.requires.held.not_least c.if-is_first.ensures.gap c.requires.held.well_formed)

pub returns-clause-ok : goal.returns-clause-ok
returns-clause-ok g c = rw (c.in-Ok.ensures.items, c.in_ok-copy.ensures.copy, c.in_ok-try_clone.ensures.copy) (added_is_join g.K.Ord.cmp g.met.K.Ord.total g.V.Join.is_valid g.V.Join.below g.met.V.Join.reflexive g.met.V.Join.transitive c.args.key.now c.args.passed.now.items c.args.ahead.now.items c.requires.map c.requires.below c.args.value.now c.requires.held.not_least c.if-is_first.ensures.gap)

pub returns-clause-below : goal.returns-clause-below
returns-clause-below g c = λ next less.
    rw (c.in-Ok.ensures.items, c.in_ok-copy.ensures.copy, c.in_ok-try_clone.ensures.copy)
    (below_append g.K.Ord.cmp next c.args.passed.now.items ((c.args.key.now, c.args.value.now) ∷ []) (below_further g.K.Ord.cmp g.met.K.Ord.total c.args.key.now next less c.args.passed.now.items c.requires.below) (less, tt))
