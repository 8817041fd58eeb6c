use Rattle.setting_rules.proofs.{Prelude.{inl, inr, resets_family, sym, ◌∙◌}, settings.family_start.Goals.{else-resets_family, then-resets_family}, Starts.{start_more, start_whole}}
use Rattle.setting_rules.proofs.settings.family_start.Goals as goal

pub loop-index-preserved : goal.loop-index-preserved
loop-index-preserved c =
    start_more (resets_family c.args.profile c.args.family) c.args.assignments.now c.loop-index.index c.index-assignments-index.result c.loop-index.start c.if-resets_family.start c.loop-index-test.true c.index-assignments-index.is c.loop-index.invariant.0 c.loop-index.invariant.1
    (elim c.if-resets_family.branch [
      | then-resets_family w ↦ inl (sym c.resets_family.ensures.test ∙ w.if-resets_family.true, w.start-is)
      | else-resets_family w ↦ inr (sym c.resets_family.ensures.test ∙ w.if-resets_family.false, w.start-is)
    ])

pub returns : goal.returns
returns c = record { start = start_whole (resets_family c.args.profile c.args.family) c.args.assignments.now c.loop-index.index c.loop-index.start c.loop-index-test.false c.loop-index.invariant.1 }
