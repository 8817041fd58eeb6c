use Rattle.fragment_choice.proofs.{OwnLinks.{by_links_from, links_decide, no_links_left}, Prelude.{ap, List, own_alias, sym, ℕ, ◌∙◌}}
use Rattle.fragment_choice.proofs.link_targets.LinkTargets.alias.Goals as goal

pub loop-target-init : goal.loop-target-init
loop-target-init c =
    let name = c.args.name.now in
    ap (λ (links : List (List ℕ)). by_links_from name links 0) c.as_slice-target-items.ensures.elements
    ∙ sym (links_decide name c.self.inside.links c.self.inside.ends) ∙ ap (own_alias name) c.self.view_is

pub returns : goal.returns
returns c = record { alias = sym (no_links_left c.args.name.now c.as_slice-target-items.result.now c.loop-target.target-index c.loop-target-test.false) ∙ c.loop-target.invariant }
