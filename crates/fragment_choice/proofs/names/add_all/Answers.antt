use Rattle.std.proofs.Common.{◌++◌, ◌∷◌, ◌≡◌}
use Rattle.fragment_choice.proofs.{Levels.{adds_none, adds_one}, Prelude.{[], Adds, ap, insert_key, iter_end, List, map, map-id, Name, name_cmp, refl, subst, sym, ◌∙◌}}
use Rattle.fragment_choice.proofs.names.add_all.Goals as goal

pub loop-name-init : goal.loop-name-init
loop-name-init c = record { list = c.new-list.ensures.items; added = adds_none [] c.args.others.now.keys refl }

pub loop-name-preserved : goal.loop-name-preserved
loop-name-preserved c = record {
  list = c.in_ok-push.ensures.items ∙ ap (λ (xs : List Name). xs ++ c.in-Some.name ∷ []) c.loop-name.invariant.list;
  added =
      adds_one c.loop-name.yielded (c.loop-name.yielded ++ c.in-Some.name ∷ []) c.args.others.now.keys c.loop-name.others.keys c.put.new.others.keys c.in-Some.name refl c.loop-name.invariant.added
      (c.in_ok-put.ensures.put ∙ ap (insert_key name_cmp c.loop-name.others.keys) c.in_ok-try_clone.ensures.copy);
}

pub returns : goal.returns
returns c =
    let all : map (λ (x : Name). x) c.loop-name.yielded ≡ c.args.names.keys =
    (iter_end (λ (x : Name). x) c.args.names.keys c.loop-name.yielded c.into_iter-name-iterator.result c.loop-name.name-iterator c.next.new.self c.next.result c.into_iter-name-iterator.ensures.into_iter_gives.0 c.loop-name.yielded_by c.in-None.is c.next.ensures.steps).0 in
    let e : c.loop-name.yielded ≡ c.args.names.keys = sym (map-id c.loop-name.yielded) ∙ all in
    record {
      list = c.loop-name.invariant.list ∙ e;
      added = subst (λ (xs : List Name). Adds xs c.args.others.now.keys c.loop-name.others.keys) e c.loop-name.invariant.added;
    }
