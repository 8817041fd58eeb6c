use Rattle.std.proofs.Common.{◌≡◌}
use Rattle.setting_rules.{proofs.Prelude.{ap, expand, List, Name, named_by_text, None, Option, plain_texts_stay, Some, sym, ℕ, ◌∙◌}, specs.Dependencies.{named_by}}
use Rattle.setting_rules.proofs.word_names.named_by.Goals as goal

-- what a word names depends only on its expansion
by_text : (unit : Name) (word : List ℕ) (text : Option (List ℕ)) → expand word unit ≡ text → named_by_text unit text ≡ named_by unit word
unfolding named_by
by_text unit word text is = ap (named_by_text unit) (sym is)

pub returns-then-not-contains : goal.returns-then-not-contains
returns-then-not-contains c =
    let plain = plain_texts_stay c.args.word.now c.args.unit.now (sym c.if-not-contains.ensures.value) in
    record { named = rw (by_text c.args.unit.now c.args.word.now _ plain) at c.named_by_text.ensures.named }

pub returns-in-Ok : goal.returns-in-Ok
returns-in-Ok c =
    let text = c.in-Ok.ensures.expanded ∙ ap (λ t. Some t) (sym c.deref.ensures.value) in
    record { named = rw (by_text c.args.unit.now c.args.word.now _ text) at c.named_by_text-in-Ok.ensures.named }

pub returns-in-Err-BadEscape : goal.returns-in-Err-BadEscape
returns-in-Err-BadEscape c = record { named = by_text c.args.unit.now c.args.word.now None (rw c.in-Err-BadEscape.field-0-is at c.in-Err-BadEscape.ensures.fault) }
