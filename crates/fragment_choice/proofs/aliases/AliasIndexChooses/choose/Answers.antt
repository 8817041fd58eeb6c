use Rattle.std.proofs.Common.{◌≡◌}
use Rattle.fragment_choice.proofs.{Leads.{own_leads}, Prelude.{Alias, ap, choice, HostViewMap, IfOk, subst, sym, ◌∙◌}}
use Rattle.fragment_choice.proofs.aliases.AliasIndexChooses.choose.Goals as goal

pub returns-in_ok-try_clone-in-Some : goal.returns-in_ok-try_clone-in-Some
returns-in_ok-try_clone-in-Some c =
    let name = c.args.name.now in
    let alias = c.in-Some.alias.now in
    let leads = own_leads c.self.inside.view name alias (c.self.invariant.known name alias (sym c.in-Some.ensures.value)) in
    record { choice = ap Alias c.in_ok-try_clone-in-Some.ensures.copy ∙ sym leads ∙ ap (λ (s : HostViewMap). choice s name) c.self.view_is }

pub returns-in-None : goal.returns-in-None
returns-in-None c = record {
  choice = subst (λ (v : HostViewMap). IfOk c.choose.result (λ chosen. chosen ≡ choice v c.args.name.now)) c.self.view_is c.choose.ensures.choice;
}
