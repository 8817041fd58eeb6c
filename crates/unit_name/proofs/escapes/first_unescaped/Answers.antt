use Rattle.std.proofs.Common.{◌∷◌}
use Rattle.unit_name.proofs.Prelude.{ap, cond-false, ne_eqb, put_first, refl, unescape, unescape-byte, ◌∙◌}
use Rattle.unit_name.proofs.escapes.first_unescaped.Goals as goal

pub returns-then-byte-eq45-clause-first : goal.returns-then-byte-eq45-clause-first
returns-then-byte-eq45-clause-first c =
    ap unescape (c.in_ok-byte.ensures.cases.0 ∙ ap (λ b. b ∷ c.in_ok-byte.rest.now) c.if-byte-eq45.true) ∙ unescape-byte 45 c.in_ok-byte.rest.now refl

pub returns-else-byte-eq45-clause-first : goal.returns-else-byte-eq45-clause-first
returns-else-byte-eq45-clause-first c =
    let other = ne_eqb _ _ c.if-byte-eq92.false in
    ap unescape c.in_ok-byte.ensures.cases.0 ∙ unescape-byte c.in_ok-byte.byte.now c.in_ok-byte.rest.now other
    ∙ ap (λ o. put_first o (unescape c.in_ok-byte.rest.now)) (cond-false _ _ _ other ∙ cond-false _ _ _ (ne_eqb _ _ c.if-byte-eq45.false))
