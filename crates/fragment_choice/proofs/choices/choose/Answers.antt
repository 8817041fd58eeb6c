use Rattle.std.proofs.Common.{◌≡◌}
use Rattle.fragment_choice.proofs.Prelude.{choice, HostViewMap, IfOk, subst}
use Rattle.fragment_choice.proofs.choices.choose.Goals as goal

pub returns : goal.returns
returns c = record {
  choice = subst (λ (v : HostViewMap). IfOk c.choose.result (λ chosen. chosen ≡ choice v c.args.name.now)) c.host_view.ensures.view c.choose.ensures.choice;
}
