use Rattle.std.proofs.Common.{◌++◌, ◌∷◌}
use Rattle.script_answers.proofs.{Crossed.{appends_crossed, appends_none, appends_other}, Prelude.{[], ap, AppendsCrossed, crossed_line, IsCrossed, LinkedUnit, List, LoadedUnit, MatchBool, Name, ReadsItsTree, subst, sym, take, take_more, ◌∙◌}}
use Rattle.script_answers.proofs.trees.append_crossed.Goals as goal
use Rattle.script_answers.proofs.trees.append_crossed.Goals.{else-branch, then-branch+in_ok-append_name}

pub loop-linked-preserved : goal.loop-linked-preserved
loop-linked-preserved c =
    let s = c.args.store.now in
    let viewer = c.args.viewer.now in
    let one = c.linked-item.result in
    let old = c.args.out.now.items in
    let text = c.loop-linked.out.items in
    let before = take c.loop-linked.linked-index c.args.all.now in
    let names = c.as_slice.ensures.elements ∙ ap (λ (u : LoadedUnit). u.names) c.get-unit.ensures.value in
    let tells = subst (λ (ns : List Name). MatchBool c.in_ok-is_crossed.field-0 (IsCrossed s viewer ns) (ReadsItsTree s viewer ns)) names c.in_ok-is_crossed.ensures.crossed in
    let all = take_more c.args.all.now c.loop-linked.linked-index one c.loop-linked-test.true ∙ ap (λ (x : LinkedUnit). before ++ x ∷ []) (sym c.linked-item.is) in
    subst (λ (us : List LinkedUnit). AppendsCrossed s viewer us old c.if-branch.out.items) (sym all)
    (elim c.if-branch.branch [
      | then-branch+in_ok-append_name w ↦
          let is = subst (λ b. MatchBool b (IsCrossed s viewer one.unit.names) (ReadsItsTree s viewer one.unit.names)) w.if-branch.true tells in
          appends_crossed s viewer before one old text c.if-branch.out.items c.loop-linked.invariant is
          (ap (λ o. o.items) w.out-is ∙ w.in_ok-append_name.ensures.appended ∙ ap (λ (u : LoadedUnit). text ++ crossed_line u.name) c.get-unit.ensures.value)
      | else-branch w ↦
          let reads = subst (λ b. MatchBool b (IsCrossed s viewer one.unit.names) (ReadsItsTree s viewer one.unit.names)) w.if-branch.false tells in
          subst (λ t. AppendsCrossed s viewer (before ++ one ∷ []) old t) (sym (ap (λ o. o.items) w.out-is)) (appends_other s viewer before one old text c.loop-linked.invariant reads)
    ])

pub loop-linked-init : goal.loop-linked-init
loop-linked-init c = appends_none c.args.store.now c.args.viewer.now c.args.out.now.items
