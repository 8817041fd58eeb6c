use Rattle.join_law.proofs.Prelude.{ap, arith, find_at, find_gap, IsSome, length, refl, subst, sym, ◌∙◌}
use Rattle.join_law.specs.{EditLaws.{inserted_is_join, inserted_is_map, refused_is_join, written_same}, OutcomeLaws.{if_err_weaker, if_ok_weaker}}
use Rattle.join_law.proofs.edits.join_pair.Goals as goal

pub returns-in-Ok-insert_pair-clause-map : goal.returns-in-Ok-insert_pair-clause-map
returns-in-Ok-insert_pair-clause-map g c = rw c.in-Ok-insert_pair.ensures.ok
    (inserted_is_map g.K.Ord.cmp g.met.K.Ord.total g.V.Join.is_valid g.V.Join.below g.met.V.Join.reflexive g.met.V.Join.transitive c.args.key _ _ c.requires.map c.args.value (λ least. let t = c.if-is_bottom.ensures.least.1 least in cc (t)) (rw c.in-Err.is at c.requires.absent) c.is_bottom.ensures.valid)

pub returns-in-Ok-insert_pair-clause-ok : goal.returns-in-Ok-insert_pair-clause-ok
returns-in-Ok-insert_pair-clause-ok g c = rw c.in-Ok-insert_pair.ensures.ok
    (inserted_is_join g.K.Ord.cmp g.met.K.Ord.total g.V.Join.is_valid g.V.Join.below g.met.V.Join.reflexive g.met.V.Join.transitive c.args.key _ _ c.requires.map c.args.value (λ least. let t = c.if-is_bottom.ensures.least.1 least in cc (t)) (rw c.in-Err.is at c.requires.absent))

pub returns-in-Err-insert_pair-clause-refused : goal.returns-in-Err-insert_pair-clause-refused
returns-in-Err-insert_pair-clause-refused g c = rw (c.in-Err-insert_pair.ensures.err, c.in-Err-insert_pair.ensures.back)
    (refused_is_join g.K.Ord.cmp g.met.K.Ord.total g.V.Join.is_valid g.V.Join.below g.met.V.Join.reflexive g.met.V.Join.transitive c.args.key _ c.in-Err.at c.requires.map c.args.value (λ least. let t = c.if-is_bottom.ensures.least.1 least in cc (t)))

pub returns-in-Err-insert_pair-clause-in_place : goal.returns-in-Err-insert_pair-clause-in_place
returns-in-Err-insert_pair-clause-in_place g c = λ in_place some.
    let none = find_gap g.K.Ord.cmp c.args.key g.met.K.Ord.total _ _ c.requires.map.sorted (rw c.in-Err.is at c.requires.absent) in
    let t = subst IsSome none some in
    cc (t)

pub returns-in-Ok-insert_pair-clause-added : goal.returns-in-Ok-insert_pair-clause-added
returns-in-Ok-insert_pair-clause-added g c =
    let none = find_gap g.K.Ord.cmp c.args.key g.met.K.Ord.total _ _ c.requires.map.sorted (rw c.in-Err.is at c.requires.absent) in
    (λ _. (none, λ least. let t = c.if-is_bottom.ensures.least.1 least in cc (t)), λ _. refl)

pub returns-in-Ok-clause-single : goal.returns-in-Ok-clause-single
returns-in-Ok-clause-single g c =
    if_err_weaker c.join_value.result
    (λ fault same single. written_same c.args.pairs.now.items c.join_value.new.pairs c.args.pairs.now.len (omega (arith, c.deref_mut.ensures.len, ap length c.deref_mut.ensures.value)) (same single ∙ c.deref_mut.ensures.value))
    c.join_value.ensures.single

pub returns-in-Ok-clause-added : goal.returns-in-Ok-clause-added
returns-in-Ok-clause-added g c =
    let found = find_at g.K.Ord.cmp c.args.key c.args.pairs.now.items c.in-Ok.at (c.args.key, c.args.value) (rw c.in-Ok.is at c.requires.found) in
    if_ok_weaker c.join_value.result
    (λ added same. (λ t. let u = sym same ∙ t in cc (u), λ new. let none = sym found ∙ new.0 in cc (none)))
    c.join_value.ensures.added
