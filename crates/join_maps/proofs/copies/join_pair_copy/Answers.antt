use Rattle.std.proofs.Common.{◌++◌, ◌≡◌}
use Rattle.join_maps.proofs.Prelude.{ap, arith, drop, find_gap, length, take, ◌∙◌}
use Rattle.join_law.specs.{EditLaws.{inserted_is_join, inserted_is_map, not_known, unchanged_is_between, written_same}, OutcomeLaws.{on_err}}
use Rattle.join_maps.proofs.copies.join_pair_copy.Goals as goal

pub returns-in_err-insert_copy-in-Err-clause-known : goal.returns-in_err-insert_copy-in-Err-clause-known
returns-in_err-insert_copy-in-Err-clause-known g c =
    λ h. absurd (not_known g.K.Ord.cmp g.met.K.Ord.total g.V.Join.is_valid g.V.Join.below g.met.V.Join.reflexive g.met.V.Join.transitive c.args.key.now _ _ c.requires.map c.args.value.now c.requires.held.not_least (rw c.deref.ensures.value at c.in-Err.ensures.absent) h)

pub returns-in_err-insert_copy-in-Err-clause-refused : goal.returns-in_err-insert_copy-in-Err-clause-refused
returns-in_err-insert_copy-in-Err-clause-refused g c =
    let between = unchanged_is_between g.K.Ord.cmp g.met.K.Ord.total g.V.Join.is_valid g.V.Join.below g.met.V.Join.reflexive g.met.V.Join.transitive c.args.key.now _ c.in-Err.at c.requires.map c.args.value.now c.requires.held.not_least in
    rw c.in_err-insert_copy-in-Err.ensures.err (on_err _ between)

pub returns-in_ok-insert_copy-in-Err-clause-map : goal.returns-in_ok-insert_copy-in-Err-clause-map
returns-in_ok-insert_copy-in-Err-clause-map g c =
    rw c.in_ok-insert_copy-in-Err.ensures.ok
    (inserted_is_map g.K.Ord.cmp g.met.K.Ord.total g.V.Join.is_valid g.V.Join.below g.met.V.Join.reflexive g.met.V.Join.transitive c.args.key.now _ _ c.requires.map c.args.value.now c.requires.held.not_least (rw c.deref.ensures.value at c.in-Err.ensures.absent) c.requires.held.well_formed)

pub returns-in_ok-insert_copy-in-Err-clause-ok : goal.returns-in_ok-insert_copy-in-Err-clause-ok
returns-in_ok-insert_copy-in-Err-clause-ok g c =
    rw c.in_ok-insert_copy-in-Err.ensures.ok
    (inserted_is_join g.K.Ord.cmp g.met.K.Ord.total g.V.Join.is_valid g.V.Join.below g.met.V.Join.reflexive g.met.V.Join.transitive c.args.key.now _ _ c.requires.map c.args.value.now c.requires.held.not_least (rw c.deref.ensures.value at c.in-Err.ensures.absent))

pub returns-then-not-are_few-clause-absent : goal.returns-then-not-are_few-clause-absent
returns-then-not-are_few-clause-absent g c =
    find_gap g.K.Ord.cmp c.args.key.now g.met.K.Ord.total _ _ c.requires.map.sorted (rw c.deref.ensures.value at c.in-Err.ensures.absent)

pub returns-in_err-join_value_copy-in-Ok-clause-single : goal.returns-in_err-join_value_copy-in-Ok-clause-single
returns-in_err-join_value_copy-in-Ok-clause-single g c =
    let kept : g.V.Join.is_single c.args.value.now → take c.args.pairs.now.len (c.join_value_copy.new.pairs ++ drop (length c.join_value_copy.new.pairs) c.args.pairs.now.items) ≡ c.args.pairs.now.items = λ single.
    written_same c.args.pairs.now.items c.join_value_copy.new.pairs c.args.pairs.now.len (omega (arith, c.deref_mut.ensures.len, ap length c.deref_mut.ensures.value)) (c.in_err-join_value_copy-in-Ok.ensures.single single ∙ c.deref_mut.ensures.value) in
    on_err _ kept
