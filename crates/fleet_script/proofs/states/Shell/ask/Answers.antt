use Rattle.std.proofs.Common.{◌≡◌}
use Rattle.fleet_script.proofs.{Goes.{by_its_profile, reads}, Nodes.{get_or_found}, Prelude.{arith, get_or, Goes, kept_in, length, List, Profile, Reads, refl, RendersInquiry, Replicated, subst, sym, take_at, ◌∙◌}}
use Rattle.std.specs.FinMap as finmap
use Rattle.fleet_script.proofs.states.Shell.ask.Goals as goal

pub returns : goal.returns
returns g c =
    let shell = kept_in c.args.self.now in
    let nodes : List Replicated = c.args.self.now.nodes.items in
    let none : Replicated = record { store = finmap.empty; writer = 0 } in
    let node : Replicated = get_or nodes c.in_ok-at.at none in
    let count : length c.render_inquiry.new.nodes ≡ c.args.self.now.nodes.len = omega (arith, c.deref_mut.ensures.len) in
    let same = take_at c.render_inquiry.new.nodes _ c.args.self.now.nodes.len count ∙ c.render_inquiry.ensures.same ∙ c.deref_mut.ensures.value in
    record {
      done =
          subst (λ (ns : List Replicated). Goes shell (record shell { nodes = ns }) (λ before outcome after. Reads before outcome after c.args.node.now (RendersInquiry before.profile c.args.host c.args.inquiry)) c.render_inquiry.result)
          (sym same)
          (by_its_profile shell shell c.render_inquiry.result c.args.node.now (λ (profile : Profile). RendersInquiry profile c.args.host c.args.inquiry)
          (reads shell c.render_inquiry.result c.args.node.now node node.store (RendersInquiry shell.profile c.args.host c.args.inquiry)
          (record { number = c.in_ok-at.at; named = c.in_ok-at.ensures.found; there = get_or_found nodes c.in_ok-at.at none c.in_ok-at.ensures.within }) refl
          (rw c.deref_mut.ensures.value at (c.render_inquiry.ensures.rendered none))));
    }
