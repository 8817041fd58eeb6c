use Rattle.section_reader.proofs.{PlaceLemmas.{items_from-entry, items_from-header, notes_from-entry, notes_from-header, recorded_line}, Prelude.{[], append-nil, items_from, notes_from, on_ok_weaker, sym, ◌∙◌}}
use Rattle.section_reader.proofs.reader.Reader.read_line.Goals as goal

pub returns-then-is_bracketed : goal.returns-then-is_bracketed
returns-then-is_bracketed c =
    let was = c.args.self.now in
    let test = sym c.if-is_bracketed.ensures.test in
    let none = on_ok_weaker c.read_header.result (λ e. e ∙ sym (append-nil was.sections.items)) c.read_header.ensures.items in
    record {
      items = recorded_line items_from _ _ was.place _ _ was.sections.items _ [] _ c.if-is_empty.ensures none c.read_header.ensures.place (λ rest. items_from-header was.place _ rest test);
      notes = recorded_line notes_from _ _ was.place _ _ was.sections.notes _ _ _ c.if-is_empty.ensures c.read_header.ensures.notes c.read_header.ensures.place (λ rest. notes_from-header was.place _ rest test);
    }

pub returns-else-is_bracketed : goal.returns-else-is_bracketed
returns-else-is_bracketed c =
    let was = c.args.self.now in
    let test = sym c.if-is_bracketed.ensures.test in
    record {
      items = recorded_line items_from _ _ was.place _ _ was.sections.items _ _ _ c.if-is_empty.ensures c.read_entry.ensures.items c.read_entry.ensures.place (λ rest. items_from-entry was.place _ rest test);
      notes = recorded_line notes_from _ _ was.place _ _ was.sections.notes _ _ _ c.if-is_empty.ensures c.read_entry.ensures.notes c.read_entry.ensures.place (λ rest. notes_from-entry was.place _ rest test);
    }
