use Rattle.std.proofs.Common.{◌++◌, ◌∷◌, ◌≡◌}
use Rattle.parallel_load.proofs.Prelude.{[], ap, append_assoc, filter_map, List, Name, NamedWords, Option, refl, sym, take, take_all, Target, whole_name, ◌∙◌}
use Rattle.parallel_load.proofs.{sources.add_visible.Goals.{in-Some+in_ok-push, in_default}, Steps.{made_none, made_one}}
use Rattle.parallel_load.proofs.sources.add_visible.Goals as goal

-- the unit name of an entry of the list of link targets, if it is one
name_in : Name × List Target → Option Name
name_in p = whole_name p.0

pub loop-name-preserved : goal.loop-name-preserved
unfolding name_in
loop-name-preserved c =
    let l : NamedWords = c.names-name-items.result.now in
    let i = c.loop-name.name-index in
    let x : Name × List Target = c.loop-name-item.result in
    let before : List Name = filter_map name_in (take i l) in
    let said : whole_name x.0 ≡ c.in_ok-name.field-0 = ap whole_name (sym c.as_slice.ensures.bytes) ∙ sym c.in_ok-name.ensures.name in
    elim c.match-branch-2.branch [
      | in-Some+in_ok-push w ↦
          ap (λ v. v.items) w.names-is ∙ w.in_ok-push.ensures.items
          ∙ ap (λ (ns : List Name). ns ++ w.in-Some.name ∷ []) c.loop-name.invariant
          ∙ append_assoc c.args.names.now.items before (w.in-Some.name ∷ [])
          ∙ ap (λ (ns : List Name). c.args.names.now.items ++ ns) (made_one name_in l i x x c.loop-name-test.true c.loop-name-item.is before w.in-Some.name (said ∙ w.in-Some.is) refl)
      | in_default w ↦
          ap (λ v. v.items) w.names-is ∙ c.loop-name.invariant
          ∙ ap (λ (ns : List Name). c.args.names.now.items ++ ns) (made_none name_in l i x x c.loop-name-test.true c.loop-name-item.is before (said ∙ w.in_default.is) refl)
    ]

pub returns : goal.returns
returns c = record {
  added =
      c.loop-name.invariant
      ∙ ap (λ (ps : NamedWords). c.args.names.now.items ++ filter_map (λ (p : Name × List Target). whole_name p.0) ps)
      (take_all c.loop-name.name-index c.names-name-items.result.now c.loop-name-test.false ∙ c.names-name-items.ensures.names);
}
