use Rattle.std.proofs.Common.{◌∷◌}
use Rattle.unit_name.proofs.{Prelude.{[], ap, expand, expand-last, expand-nil, is_some, nil_from_length, refl, Some, specifier, sym, ◌∙◌}, Steps.{byte_expands, is_some-put_before, is_some-put_nothing, pair_expands}}
use Rattle.unit_name.proofs.specifiers.can_expand.Goals as goal

pub returns-in_default-split_first : goal.returns-in_default-split_first
returns-in_default-split_first c =
    let rest = c.in-Some.ensures.cases.0 ∙ ap (λ x. c.in-Some.byte.now ∷ x) (nil_from_length c.in-Some.after.now c.in_default-split_first.ensures.cases) in
    record { test = sym (ap (λ x. is_some (expand x c.args.name.now)) rest ∙ ap is_some (expand-last c.in-Some.byte.now c.args.name.now)) ∙ c.loop-byte.invariant }

pub loop-byte-preserved-then-byte-ne37 : goal.loop-byte-preserved-then-byte-ne37
loop-byte-preserved-then-byte-ne37 c =
    let byte = byte_expands c.loop-byte.rest.now c.in-Some.after.now c.in-Some.byte.now c.args.name.now c.in-Some.ensures.cases.0 c.if-byte-ne37.true in
    sym (is_some-put_before (Some (c.in-Some.byte.now ∷ [])) (expand c.in-Some.after.now c.args.name.now) refl) ∙ sym (ap is_some byte) ∙ c.loop-byte.invariant

pub loop-byte-preserved : goal.loop-byte-preserved
loop-byte-preserved c =
    let pair = pair_expands c.loop-byte.rest.now c.in-Some.after.now c.in-Some-split_first.beyond.now c.in-Some.byte.now c.in-Some-split_first.letter.now c.args.name.now c.in-Some.ensures.cases.0 c.in-Some-split_first.ensures.cases.0 c.if-byte-ne37.false in
    sym (is_some-put_before (specifier c.in-Some-split_first.letter.now c.args.name.now) (expand c.in-Some-split_first.beyond.now c.args.name.now) (sym c.if-stands.ensures.test)) ∙ sym (ap is_some pair) ∙ c.loop-byte.invariant

pub returns-else-stands : goal.returns-else-stands
returns-else-stands c =
    let pair = pair_expands c.loop-byte.rest.now c.in-Some.after.now c.in-Some-split_first.beyond.now c.in-Some.byte.now c.in-Some-split_first.letter.now c.args.name.now c.in-Some.ensures.cases.0 c.in-Some-split_first.ensures.cases.0 c.if-byte-ne37.false in
    record { test = sym (is_some-put_nothing (specifier c.in-Some-split_first.letter.now c.args.name.now) (expand c.in-Some-split_first.beyond.now c.args.name.now) (sym c.if-stands.ensures.test)) ∙ sym (ap is_some pair) ∙ c.loop-byte.invariant }

pub returns : goal.returns
returns c =
    let nil = nil_from_length c.loop-byte.rest.now c.in_default.ensures.cases in
    record { test = sym (ap (λ r. is_some (expand r c.args.name.now)) nil ∙ ap is_some (expand-nil c.args.name.now)) ∙ c.loop-byte.invariant }
