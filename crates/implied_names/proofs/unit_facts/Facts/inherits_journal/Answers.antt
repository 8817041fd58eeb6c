use Rattle.std.proofs.Common.{◌&&◌, ◌≡◌}
use Rattle.implied_names.proofs.Prelude.{ap, bytes_eq, codes, is_open_input, is_service, kind, last, not, rules, sym, tests, true, ◌∙◌}
use Rattle.implied_names.proofs.unit_facts.Facts.inherits_journal.Goals as goal

pub returns-in_ok-last : goal.returns-in_ok-last
returns-in_ok-last c =
    let input = last c.args.self.now (codes "StandardInput") in
    let said = c.args.said.now in
    let service : is_service (kind c.args.self.now.unit) ≡ true = search (rules, tests) in
    let same : bytes_eq said (codes "inherit") ≡ true = search (rules, tests) in
    let there : c.is_open_input.result ≡ is_open_input input = c.is_open_input.ensures.test ∙ ap is_open_input c.in_ok-last.ensures.last in
    record { test = ap not there ∙ sym (ap (λ b. b && bytes_eq said (codes "inherit") && not (is_open_input input)) service ∙ ap (λ b. b && not (is_open_input input)) same) }
