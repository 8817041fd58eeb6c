-- Empty texts.
use Rattle.std.proofs.Common.{◌==◌, ◌∷◌, ◌≡◌}
use Rattle.setting_rules.proofs.Prelude.{[], arith, is_empty, length, ne_eqb, refl, Text}

pub none_left : (text : Text) → (length text == 0) ≡ is_empty text
none_left [] = refl
none_left (b ∷ text) = ne_eqb (length (b ∷ text)) 0 (λ e. omega (arith, e))
