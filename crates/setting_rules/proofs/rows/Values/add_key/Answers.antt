use Rattle.setting_rules.proofs.{Prelude.{escape_notes_at, rows_at}, RowLemmas.{escape_notes_at-append, rows_at-append, texts_more}}
use Rattle.setting_rules.proofs.rows.Values.add_key.Goals as goal

pub loop-text-preserved : goal.loop-text-preserved
loop-text-preserved c =
    let unit = c.args.unit.now in
    let key = c.args.key.now in (
      texts_more (rows_at unit key) (rows_at-append unit key) c.args.texts.now c.loop-text.text-index _ _ c.args.self.now.rows c.loop-text.self.rows c.add_value.new.self.rows c.loop-text-test.true c.text-item.is c.loop-text.invariant.0 c.in_ok-add_value.ensures.rows,
      texts_more (escape_notes_at unit key) (escape_notes_at-append unit key) c.args.texts.now c.loop-text.text-index _ _ c.args.self.now.notes c.loop-text.self.notes c.add_value.new.self.notes c.loop-text-test.true c.text-item.is c.loop-text.invariant.1 c.in_ok-add_value.ensures.notes,
    )
