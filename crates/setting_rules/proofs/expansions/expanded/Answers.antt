use Rattle.setting_rules.proofs.Prelude.{ap, is_percent, list_any, plain_texts_stay, Some, sym, ◌∙◌}
use Rattle.setting_rules.proofs.expansions.expanded.Goals as goal

pub returns-then-not-contains : goal.returns-then-not-contains
returns-then-not-contains c = record {
  expanded = ap (λ t. Some t) c.in_ok-try_clone.ensures.copy
      ∙ sym (plain_texts_stay c.args.text.now c.args.unit.now (ap (list_any is_percent) (sym c.as_slice.ensures.bytes) ∙ sym c.if-not-contains.ensures.value));
}
