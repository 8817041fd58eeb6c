use Rattle.std.proofs.Common.{◌&&◌, ◌++◌, ◌∷◌, ◌≡◌}
use Rattle.setting_rules.proofs.Prelude.{[], ap, changed, cond, false, is_empty, key_of, not, sym, ◌∙◌}
use Rattle.setting_rules.proofs.{settings.Settings.take_in_family.Goals.{else-live-via-else-live, else-live-via-then-live+else-not-is_empty}, Texts.{none_left}}
use Rattle.setting_rules.proofs.settings.Settings.take_in_family.Goals as goal

pub returns-in_ok-enter-clause-map : goal.returns-in_ok-enter-clause-map
returns-in_ok-enter-clause-map c =
    let value = c.args.assignment.now.value in
    let off : (c.args.live && not (is_empty value)) ≡ false = elim c.else-live.branch [
      | else-live-via-then-live+else-not-is_empty w ↦ ap (λ b. b && not (is_empty value)) w.if-live.true ∙ ap not (sym (ap is_empty w.as_slice.ensures.bytes) ∙ sym (none_left w.as_slice.result.now) ∙ sym w.if-not-is_empty.ensures)
      | else-live-via-else-live w ↦ ap (λ b. b && not (is_empty value)) w.if-live.false
    ] in
    c.in_ok-enter.ensures.map ∙ ap (changed (λ values. values) c.args.self.now.map) c.in_ok-of.ensures.key
    ∙ sym (ap (λ b. changed (λ values. cond b (values ++ value ∷ []) values) c.args.self.now.map (key_of c.args.assignment.now)) off)
