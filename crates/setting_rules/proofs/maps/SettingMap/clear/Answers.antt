use Rattle.setting_rules.proofs.{MapLemmas.{within_at, written_at}, Prelude.{[], ◌∙◌}}
use Rattle.setting_rules.proofs.maps.SettingMap.clear.Goals as goal

pub index_mut-requires : goal.index_mut-requires
index_mut-requires c = within_at c.args.self.now c.args.key c.self.inside.entries.entries c.in_ok-place.place (c.self.view_is ∙ c.in_ok-place.ensures.entered) c.in_ok-place.ensures.place

pub returns : goal.returns
returns c = record {
  map = written_at (λ _. []) c.args.self.now c.args.key c.self.inside.entries.entries c.in_ok-place.place _ _ (c.self.view_is ∙ c.in_ok-place.ensures.entered) c.in_ok-place.ensures.place c.index_mut.ensures.value c.clear.ensures.empty;
}
