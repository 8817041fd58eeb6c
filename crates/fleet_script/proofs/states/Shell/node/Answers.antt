use Rattle.std.proofs.Common.{◌≡◌}
use Rattle.fleet_script.proofs.{Goes.{is_none, key_updated, made, number_added}, Prelude.{ap, arith, kept_in, length, refl, Replicated, sym, ◌∙◌}}
use Rattle.fleet_script.proofs.states.Shell.node.Goals as goal

pub returns-clause-done : goal.returns-clause-done
returns-clause-done c =
    let shell = kept_in c.args.self.now in
    let copy = c.in_ok-name.ensures.copy in
    let count : c.len-number.result ≡ length c.args.self.now.nodes.items = omega (arith, c.len-number.ensures, c.args.self.now.nodes.ok) in
    made shell _ c.args.name.now c.args.writer c.new-2.result c.in_ok-text.text
    (ap shell.number_of (sym copy) ∙ is_none _ c.if-contains_key.ensures) (sym c.if-contains.ensures)
    (ap (λ (r : Replicated). r.writer) (c.new-2.ensures.given ∙ c.new.ensures.empty)) (ap (λ (r : Replicated). r.store) (c.new-2.ensures.given ∙ c.new.ensures.empty)) c.in_ok-text.ensures.items c.in_ok-push.ensures.items
    (λ other. key_updated c.args.name.now c.in_ok-name.name other c.len-number.result _ (shell.number_of other) _ copy count ((c.in_ok-insert-2.ensures.updates).0 other))
    (λ other. number_added c.args.writer other _ _ ((c.in_ok-insert.ensures.updates).0 other)) refl refl
