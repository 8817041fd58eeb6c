use Rattle.std.proofs.Common.{◌-◌}
use Rattle.fragment_choice.proofs.{Prelude.{ap, arith, follow, sym, ◌∙◌}, Steps.{asked, ended_here, stands, unasked}}
use Rattle.fragment_choice.proofs.resolutions.follow_aliases.Goals as goal

pub loop-step-init : goal.loop-step-init
loop-step-init g c = ap (follow (g.C.Chooses.in_view c.args.chooser.now) 9 c.args.name.now) c.in_ok-main.ensures.copy

pub returns-in_default : goal.returns-in_default
returns-in_default g c =
    let s = g.C.Chooses.in_view c.args.chooser.now in
    let found = ended_here _ c.loop-step.main _ c.in_default.not-Alias ∙ asked s c.args.name.now c.loop-step.main (9 - c.loop-step.step) (9 - c.loop-step.step - 1) _ _ (omega arith) c.in_ok-choice.ensures.choice c.loop-step.invariant in
    let all = stands s c.args.name.now _ found in
    record { resolution = found; chain = all.chain; no_alias = all.no_alias }

pub loop-step-preserved : goal.loop-step-preserved
loop-step-preserved g c = asked (g.C.Chooses.in_view c.args.chooser.now) c.args.name.now c.loop-step.main (9 - c.loop-step.step) _ _ _ (omega arith) (sym c.in-Alias.is ∙ c.in_ok-choice.ensures.choice) c.loop-step.invariant

pub returns : goal.returns
returns g c =
    let s = g.C.Chooses.in_view c.args.chooser.now in
    let found = unasked s c.args.name.now c.loop-step.main _ (9 - c.loop-step.step) _ (omega arith) c.in_ok-try_clone.ensures.copy c.loop-step.invariant in
    record { resolution = found; chain = (stands s c.args.name.now _ found).chain; no_alias = tt }
