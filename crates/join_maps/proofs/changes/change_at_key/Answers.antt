use Rattle.std.proofs.Common.{◌∷◌, ◌≡◌, ◌≢◌}
use Rattle.join_maps.proofs.Prelude.{[], AreMapped, Bool, inr, is_some_and, IsJoin, MapBelow, None, Option, Some, subst, sym, true, ◌∙◌}
use Rattle.chunked_pairs.specs.{Chunks.{run_at}, EditLaws.{length_with}}
use Rattle.join_law.specs.OutcomeLaws.{by_made, on_false_weaker, on_true_made}
use Rattle.join_maps.proofs.RunSteps.{edit_joined, edit_mapped, find_in_run, IsRunEdit, join_between, put_as_it_was, put_back, put_same, run_is_map}
use Rattle.join_maps.proofs.changes.change_at_key.Given.{Over}
use Rattle.join_maps.proofs.changes.change_at_key.Goals as goal

pub change_pair-is_made-requires : goal.change_pair-is_made-requires
change_pair-is_made-requires g c = rw c.take-run.ensures.run
    (run_is_map g.K.Ord.cmp g.met.K.Ord.total g.C.Value.Join.is_valid g.C.Value.Join.below g.met.C.Value.Join.reflexive g.met.C.Value.Join.transitive g.C.Value.Join.join g.met.C.Value.Join.joins c.args.chunks.now c.requires.map c.run_of-at.result c.run_of-at.ensures.within)

pub put-requires : goal.put-requires
put-requires g c = record { within = rw (c.take-run.ensures.left, length_with c.args.chunks.now.0 c.args.chunks.now.1 c.run_of-at.result []) c.run_of-at.ensures.within }

pub returns-clause-made : goal.returns-clause-made
returns-clause-made g c = rw (find_in_run g.K.Ord.cmp g.met.K.Ord.total g.C.Value.Join.is_valid g.C.Value.Join.below g.met.C.Value.Join.reflexive g.met.C.Value.Join.transitive g.C.Value.Join.join g.met.C.Value.Join.joins c.args.chunks.now c.requires.map c.run_of-at.result c.run_of-at.ensures.within c.args.key.now c.run_of-at.ensures.falls)
    (rw c.take-run.ensures.run at c.change_pair-is_made.ensures.made)

some_there : {V : Type 0} (test : V → Bool) (x : Option V) → is_some_and test x ≡ true → x ≢ None
some_there test None e = cc (e)
some_there test (Some v) e = λ n. cc (n)

edit : (g : Over) (c : goal.After-put g) → c.change_pair-is_made.result ≡ true
    → IsJoin (MapBelow g.K.Ord.cmp g.C.Value.Join.below) (run_at c.args.chunks.now.0 c.args.chunks.now.1 c.run_of-at.result) ((c.args.key.now, g.C.Change.added c.args.change) ∷ []) c.change_pair-is_made.new.pairs.items
    → IsRunEdit g.K.Ord.cmp g.C.Value.Join.is_valid g.C.Value.Join.below c.args.chunks.now c.run_of-at.result ((c.args.key.now, g.C.Change.added c.args.change) ∷ []) c.change_pair-is_made.new.pairs.items c.put.new.self
edit g c made joined = record {
  mapped = c.requires.map;
  within = c.run_of-at.ensures.within;
  falls = (c.run_of-at.ensures.falls, tt);
  room = inr (some_there (g.C.Change.is_made c.args.change) _ (sym (rw c.take-run.ensures.run at c.change_pair-is_made.ensures.made) ∙ made), tt);
  map = c.change_pair-is_made.ensures.map;
  between = join_between g.K.Ord.cmp g.C.Value.Join.below g.met.C.Value.Join.reflexive g.met.C.Value.Join.transitive _ _ _ joined;
  put_is = put_back c.args.chunks.now c.take-run.new.self c.put.new.self c.run_of-at.result c.change_pair-is_made.new.pairs.items c.take-run.ensures.left c.put.ensures.put;
}

pub returns-clause-joined : goal.returns-clause-joined
returns-clause-joined g c =
    on_true_made c.change_pair-is_made.result
    (λ made joined. edit_joined g.K.Ord.cmp g.met.K.Ord.total g.C.Value.Join.is_valid g.C.Value.Join.below g.met.C.Value.Join.reflexive g.met.C.Value.Join.transitive g.C.Value.Join.join g.met.C.Value.Join.joins _ _ _ _ _ (edit g c made joined) joined)
    (rw c.take-run.ensures.run at c.change_pair-is_made.ensures.joined)

pub returns-clause-same : goal.returns-clause-same
returns-clause-same g c =
    on_false_weaker c.change_pair-is_made.result
    (λ same. put_same _ _ c.run_of-at.result _ (put_back c.args.chunks.now c.take-run.new.self c.put.new.self c.run_of-at.result c.change_pair-is_made.new.pairs.items c.take-run.ensures.left c.put.ensures.put) same)
    (rw c.take-run.ensures.run at c.change_pair-is_made.ensures.same)

pub returns-clause-map : goal.returns-clause-map
returns-clause-map g c =
    by_made c.change_pair-is_made.result
    (λ made joined. edit_mapped g.K.Ord.cmp g.met.K.Ord.total g.C.Value.Join.is_valid g.C.Value.Join.below g.met.C.Value.Join.reflexive g.met.C.Value.Join.transitive g.C.Value.Join.join g.met.C.Value.Join.joins _ _ _ _ _ (edit g c made joined))
    (λ made same.
    let put = put_back c.args.chunks.now c.take-run.new.self c.put.new.self c.run_of-at.result c.change_pair-is_made.new.pairs.items c.take-run.ensures.left c.put.ensures.put in
    subst (AreMapped g.K.Ord.cmp g.C.Value.Join.below g.C.Value.Join.is_valid) (sym (put ∙ put_as_it_was c.args.chunks.now c.run_of-at.result _ same)) c.requires.map)
    (rw c.take-run.ensures.run at c.change_pair-is_made.ensures.joined) (rw c.take-run.ensures.run at c.change_pair-is_made.ensures.same)
