use Rattle.std.proofs.Common.{◌++◌, ◌∷◌}
use Rattle.setting_rules.proofs.{MapLemmas.{within_at, written_at}, Prelude.{[], ap, ◌∙◌}}
use Rattle.setting_rules.proofs.maps.SettingMap.replace.Goals as goal

pub index_mut-values-requires : goal.index_mut-values-requires
index_mut-values-requires c = within_at c.args.self.now c.args.key c.self.inside.entries.entries c.in_ok-place.place (c.self.view_is ∙ c.in_ok-place.ensures.entered) c.in_ok-place.ensures.place

pub returns : goal.returns
returns c = record {
  map = written_at (λ _. c.args.value ∷ []) c.args.self.now c.args.key c.self.inside.entries.entries c.in_ok-place.place _ _ (c.self.view_is ∙ c.in_ok-place.ensures.entered) c.in_ok-place.ensures.place c.index_mut-values.ensures.value (c.in_ok-push.ensures.ok ∙ ap (λ v. v ++ c.args.value ∷ []) c.clear.ensures.empty);
}
