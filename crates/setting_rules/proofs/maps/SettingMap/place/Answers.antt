use Rattle.indexmap.specs.IndexMap.{insert_entry}
use Rattle.setting_rules.{proofs.{MapLemmas.{found_place, found_stays, new_goes_last, new_place}, Prelude.{ap, place_of, sym, with_key, ◌∙◌}, SameKeys.{same}}, specs.contracts.keys.SettingKeyPartialEq.TheImpl.{eq-value}}
use Rattle.setting_rules.proofs.maps.SettingMap.place.Goals as goal

pub returns-in-Some-clause-entered : goal.returns-in-Some-clause-entered
returns-in-Some-clause-entered c =
    sym c.self.view_is ∙ found_stays eq-value.it same c.args.key c.self.inside.entries.entries c.in-Some.place c.in-Some.ensures.index ∙ ap (λ m. with_key m c.args.key) c.self.view_is

pub returns-in-Some-clause-place : goal.returns-in-Some-clause-place
returns-in-Some-clause-place c =
    found_place eq-value.it same c.args.key c.self.inside.entries.entries c.in-Some.place c.in-Some.ensures.index ∙ ap (λ m. place_of m c.args.key) c.self.view_is

pub returns-in_ok-insert-in-None-clause-entered : goal.returns-in_ok-insert-in-None-clause-entered
returns-in_ok-insert-in-None-clause-entered c =
    c.in_ok-insert-in-None.ensures.entries ∙ ap (insert_entry eq-value.it c.self.inside.entries.entries c.args.key) c.new.ensures.empty ∙ new_goes_last eq-value.it same c.args.key c.self.inside.entries.entries c.in-None.ensures.index ∙ ap (λ m. with_key m c.args.key) c.self.view_is

pub returns-in_ok-insert-in-None-clause-place : goal.returns-in_ok-insert-in-None-clause-place
returns-in_ok-insert-in-None-clause-place c =
    c.len-place.ensures.len ∙ new_place eq-value.it same c.args.key c.self.inside.entries.entries c.in-None.ensures.index ∙ ap (λ m. place_of m c.args.key) c.self.view_is
