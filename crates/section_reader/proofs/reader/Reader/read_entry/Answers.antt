use Rattle.std.proofs.Common.{◌++◌, ◌∷◌}
use Rattle.section_reader.proofs.Prelude.{[], ap, items_at, Line, notes_at, on_ok_weaker, ◌∙◌}
use Rattle.section_reader.proofs.PlaceLemmas.{items-assigned, items-outside, items-passed_over, items-unassigned, notes-assigned, notes-outside, notes-passed_over, notes-unassigned, nothing_more, one_more, same_assignment}
use Rattle.section_reader.proofs.reader.Reader.read_entry.Goals as goal

pub returns-in-Outside-clause-items : goal.returns-in-Outside-clause-items
returns-in-Outside-clause-items c =
    let line : Line = record { number = c.args.number; text = c.args.text.now } in
    let none = ap (λ p. items_at p (line ∷ [])) c.in-Outside.is ∙ items-outside line in
    on_ok_weaker c.note.result (λ e. e ∙ nothing_more _ _ none) c.note.ensures.items

pub returns-in-Outside-clause-notes : goal.returns-in-Outside-clause-notes
returns-in-Outside-clause-notes c =
    let line : Line = record { number = c.args.number; text = c.args.text.now } in
    let one = ap (λ p. notes_at p (line ∷ [])) c.in-Outside.is ∙ notes-outside line in
    on_ok_weaker c.note.result (λ e. one_more _ _ _ _ e one) c.note.ensures.notes

pub returns-in-PassedOver-clause-items : goal.returns-in-PassedOver-clause-items
returns-in-PassedOver-clause-items c =
    let line : Line = record { number = c.args.number; text = c.args.text.now } in
    nothing_more _ _ (ap (λ p. items_at p (line ∷ [])) c.in-PassedOver.is ∙ items-passed_over line)

pub returns-in-PassedOver-clause-notes : goal.returns-in-PassedOver-clause-notes
returns-in-PassedOver-clause-notes c =
    let line : Line = record { number = c.args.number; text = c.args.text.now } in
    nothing_more _ _ (ap (λ p. notes_at p (line ∷ [])) c.in-PassedOver.is ∙ notes-passed_over line)

pub returns-in_default-clause-items : goal.returns-in_default-clause-items
returns-in_default-clause-items c =
    let line : Line = record { number = c.args.number; text = c.args.text.now } in
    let none = ap (λ p. items_at p (line ∷ [])) c.in-Inside.is ∙ items-unassigned _ line c.in_default.ensures.pair in
    on_ok_weaker c.note-in_default.result (λ e. e ∙ nothing_more _ _ none) c.note-in_default.ensures.items

pub returns-in_default-clause-notes : goal.returns-in_default-clause-notes
returns-in_default-clause-notes c =
    let line : Line = record { number = c.args.number; text = c.args.text.now } in
    let one = ap (λ p. notes_at p (line ∷ [])) c.in-Inside.is ∙ notes-unassigned _ line c.in_default.ensures.pair in
    on_ok_weaker c.note-in_default.result (λ e. one_more _ _ _ _ e one) c.note-in_default.ensures.notes

pub returns-clause-items : goal.returns-clause-items
returns-clause-items c =
    let line : Line = record { number = c.args.number; text = c.args.text.now } in
    let one = ap (λ p. items_at p (line ∷ [])) c.in-Inside.is ∙ items-assigned _ line _ _ c.in-Some.ensures.pair in
    let same = same_assignment _ _ _ _ _ _ c.args.number c.in_ok-try_clone.ensures.copy c.in_ok-from_slice.ensures.copy c.in_ok-from_slice-2.ensures.copy in
    on_ok_weaker c.push.result (λ e. one_more _ _ _ _ (e ∙ ap (λ a. c.args.self.now.sections.items ++ a ∷ []) same) one) c.push.ensures.ok

pub returns-clause-notes : goal.returns-clause-notes
returns-clause-notes c =
    let line : Line = record { number = c.args.number; text = c.args.text.now } in
    let none = nothing_more c.args.self.now.sections.notes _ (ap (λ p. notes_at p (line ∷ [])) c.in-Inside.is ∙ notes-assigned _ line _ _ c.in-Some.ensures.pair) in
    on_ok_weaker c.push.result (λ e. none) c.push.ensures.ok
