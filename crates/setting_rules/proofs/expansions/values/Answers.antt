use Rattle.setting_rules.{proofs.{Prelude.{escape_notes_at, rows_at}, RowLemmas.{keys_more}}, specs.Rows.{escape_notes, rows_of}}
use Rattle.setting_rules.proofs.expansions.values.Goals as goal

pub loop-place-init : goal.loop-place-init
unfolding rows_of escape_notes
loop-place-init c = (c.new-values.ensures.rows, c.new-values.ensures.notes)

pub loop-place-preserved : goal.loop-place-preserved
unfolding rows_of escape_notes
loop-place-preserved c =
    let unit = c.args.unit.now in (
      keys_more c.args.settings.now.profile (rows_at unit) c.args.settings.now.map c.loop-place.place c.entry.result.0.now c.entry.result.1.now c.loop-place.values.rows c.add_key.new.self.rows c.entry.ensures.entry c.loop-place.invariant.0 c.in_ok-add_key.ensures.rows,
      keys_more c.args.settings.now.profile (escape_notes_at unit) c.args.settings.now.map c.loop-place.place c.entry.result.0.now c.entry.result.1.now c.loop-place.values.notes c.add_key.new.self.notes c.entry.ensures.entry c.loop-place.invariant.1 c.in_ok-add_key.ensures.notes,
    )
