use Rattle.setting_rules.proofs.{Prelude.{SettingKey, sym, ◌∙◌}, RowLemmas.{look_found, look_passed}}
use Rattle.setting_rules.proofs.maps.SettingMap.values_of.Goals as goal

pub returns-then-is : goal.returns-then-is
returns-then-is c =
    let k : SettingKey = record { section = c.args.section.now; key = c.args.key.now } in
    record { values = sym (c.loop-place.invariant ∙ look_found c.args.self.now c.loop-place.place k c.entry.result.0.now c.entry.result.1.now c.entry.ensures.entry (sym c.if-is.ensures.test)) }

pub loop-place-preserved : goal.loop-place-preserved
loop-place-preserved c =
    let k : SettingKey = record { section = c.args.section.now; key = c.args.key.now } in
    c.loop-place.invariant ∙ look_passed c.args.self.now c.loop-place.place k c.entry.result.0.now c.entry.result.1.now c.entry.ensures.entry (sym c.if-is.ensures.test)
