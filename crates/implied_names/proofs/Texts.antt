-- Components, and which texts write paths.
use Rattle.std.proofs.Common.{◌&&◌, ◌≡◌}
use Rattle.implied_names.proofs.Prelude.{and-false, ap, Bool, Bor, codes, components, cond, false, is_up, joined, List, list_any, map, nat_eq, None, not, Some, starts_with, sym, Text, true, ◌∙◌}
use Rattle.unit_values.specs.ValueLaws.{any_borrowed}
use Rattle.implied_names.specs.Paths.{path_of}

-- whether components go up, as it was found on borrowed ones
pub up_as_said : (parts held : List (Bor Text)) (all : List Text) (said : Bool) → said ≡ list_any (λ (part : Bor Text). is_up part.now) held → held ≡ parts
    → map (λ (part : Bor Text). part.now) parts ≡ all → list_any is_up all ≡ said
up_as_said parts held all said is same components =
    sym (ap (list_any is_up) components) ∙ sym (any_borrowed is_up parts) ∙ sym (ap (list_any (λ (part : Bor Text). is_up part.now)) same) ∙ sym is

-- ---- which texts write paths

module _ (text : Text) where
  pub no_path_behind : starts_with nat_eq text (codes "/") ≡ false → path_of text ≡ None
  unfolding path_of
  no_path_behind h = ap (λ b. cond (b && not (list_any is_up (components text))) (Some (joined (components text))) None) h

  pub no_path_up : list_any is_up (components text) ≡ true → path_of text ≡ None
  unfolding path_of
  no_path_up h =
      ap (λ b. cond (starts_with nat_eq text (codes "/") && not b) (Some (joined (components text))) None) h
      ∙ ap (λ b. cond b (Some (joined (components text))) None) (and-false (starts_with nat_eq text (codes "/")))

  pub path_there : starts_with nat_eq text (codes "/") ≡ true → list_any is_up (components text) ≡ false → path_of text ≡ Some (joined (components text))
  unfolding path_of
  path_there h k =
      ap (λ b. cond (b && not (list_any is_up (components text))) (Some (joined (components text))) None) h
      ∙ ap (λ b. cond (not b) (Some (joined (components text))) None) k
