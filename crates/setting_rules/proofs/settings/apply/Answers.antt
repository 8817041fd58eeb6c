use Rattle.setting_rules.{proofs.{Firsts.{pairs}, Kept.{kept}, Prelude.{ap, take_all, ◌∙◌}, Steps.{map_more, notes_then, settings_whole}}, specs.Settings.{boolean_notes, keys_of}}
use Rattle.setting_rules.proofs.settings.apply.Goals as goal

pub loop-index-init : goal.loop-index-init
unfolding keys_of boolean_notes
loop-index-init c = (c.in_ok-settings.ensures.map, c.in_ok-settings.ensures.notes, c.in_ok-settings.ensures.profile)

pub loop-index-preserved : goal.loop-index-preserved
loop-index-preserved c =
    let x = c.index-assignments-index.result in
    let rule = c.rule_of-rule.ensures.rule in (
      map_more c.args.profile c.of-starts.result.conditions c.of-starts.result.assertions c.args.assignments.now c.loop-index.index x c.rule_of-rule.result c.loop-index-test.true c.index-assignments-index.is rule c.of_rule.result c.loop-index.settings.map c.take.new.self.map c.of_rule.ensures.start c.loop-index.invariant.0 c.in_ok-take.ensures.map,
      notes_then c.args.profile c.of-starts.result.conditions c.of-starts.result.assertions c.args.assignments.now c.loop-index.index x c.rule_of-rule.result c.loop-index-test.true c.index-assignments-index.is rule c.loop-index.settings.notes c.take.new.self.notes c.loop-index.invariant.1 c.in_ok-take.ensures.notes,
      c.in_ok-take.ensures.profile ∙ c.loop-index.invariant.2,
    )

pub returns-clause-map : goal.returns-clause-map
returns-clause-map c =
    let whole = take_all c.loop-index.index c.args.assignments.now c.loop-index-test.false in
    c.loop-index.invariant.0 ∙ ap (λ l. pairs (kept c.args.profile c.of-starts.result.conditions c.of-starts.result.assertions l) (keys_of c.args.profile l)) whole
    ∙ settings_whole c.args.profile c.of-starts.result.conditions c.of-starts.result.assertions c.args.assignments.now c.of-starts.ensures.conditions c.of-starts.ensures.assertions
