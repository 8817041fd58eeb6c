use Rattle.std.proofs.Common.{◌++◌, ◌+◌, ◌∷◌}
use Rattle.fragment_choice.proofs.{Levels.{adds_none, adds_one}, Prelude.{[], Adds, ap, insert_key, List, Name, name_cmp, refl, subst, sym, take, take_all, take_more, ◌∙◌}}
use Rattle.fragment_choice.proofs.names.gather_owners.Goals as goal

pub loop-owner-init : goal.loop-owner-init
loop-owner-init c = adds_none [] c.args.others.now.keys refl

pub loop-owner-preserved : goal.loop-owner-preserved
loop-owner-preserved c =
    let i = c.loop-owner.owner-index in
    let prefix = take i c.args.owners.now in
    adds_one prefix (take (i + 1) c.args.owners.now) c.args.others.now.keys c.loop-owner.others.keys c.put.new.others.keys c.owner-item.result
    (take_more c.args.owners.now i c.owner-item.result c.loop-owner-test.true ∙ ap (λ (x : Name). prefix ++ x ∷ []) (sym c.owner-item.is)) c.loop-owner.invariant
    (c.in_ok-put.ensures.put ∙ ap (insert_key name_cmp c.loop-owner.others.keys) c.in_ok-try_clone.ensures.copy)

pub returns : goal.returns
returns c = record {
  added = subst (λ (xs : List Name). Adds xs c.args.others.now.keys c.loop-owner.others.keys) (take_all c.loop-owner.owner-index c.args.owners.now c.loop-owner-test.false) c.loop-owner.invariant;
}
