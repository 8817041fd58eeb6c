use Rattle.std.proofs.Common.{◌++◌, ◌≡◌, ◌⊎◌}
use Rattle.section_reader.proofs.Prelude.{ap, assignments_in, Blank, Comment, continued_some, form, inl, inr, items_from, Line, logical_of, logical_of-continued, logical_of-nil, logical_of-passed, logical_of-whole, notes_from, notes_in, sym, trimmed, ⊎_elim, ◌∙◌}
use Rattle.section_reader.proofs.PlaceLemmas.{finished, items_from-nil, items_from-start, notes_from-nil, notes_from-start, step}
use Rattle.section_reader.specs.{Logical.{logical_lines}, Sections.{assignments_of, notes_of}}
use Rattle.section_reader.proofs.reader.read.Goals as goal

pub loop-line-init : goal.loop-line-init
unfolding assignments_of notes_of logical_lines
loop-line-init c =
    let lines = logical_of c.of-lines.result in
    let all = ap logical_of c.of-lines.ensures.lines in
    let reader = c.new-reader.result in (
      ap (λ v. v ++ items_from reader.place lines) c.new-reader.ensures.items ∙ ap (λ p. items_from p lines) c.new-reader.ensures.place ∙ items_from-start lines ∙ ap assignments_in all,
      ap (λ v. v ++ notes_from reader.place lines) c.new-reader.ensures.notes ∙ ap (λ p. notes_from p lines) c.new-reader.ensures.place ∙ notes_from-start lines ∙ ap notes_in all,
    )

pub loop-line-preserved-in-Blank : goal.loop-line-preserved-in-Blank
loop-line-preserved-in-Blank c =
    let line : Line = record { number = c.in-Some.line.number; text = c.in-Some.line.text.now } in
    let rest = c.next_line.new.self in
    let same = sym c.form.ensures.form in
    let is : (form line.text ≡ Blank) ⊎ (form line.text ≡ Comment) = ⊎_elim (λ e. inl (same ∙ e)) (λ e. inr (same ∙ e)) c.in-Blank.is in
    let passed = sym (ap logical_of c.in-Some.ensures.next ∙ logical_of-passed line rest is) in
    let reader = c.loop-line.reader in (
      ap (λ v. reader.sections.items ++ items_from reader.place v) passed ∙ c.loop-line.invariant.0,
      ap (λ v. reader.sections.notes ++ notes_from reader.place v) passed ∙ c.loop-line.invariant.1,
    )

pub loop-line-preserved-in-Continue-1 : goal.loop-line-preserved-in-Continue-1
loop-line-preserved-in-Continue-1 c =
    let line : Line = record { number = c.in-Some.line.number; text = c.in-Some.line.text.now } in
    let rest = c.next_line.new.self in
    let first = ap logical_of c.in-Some.ensures.next ∙ logical_of-whole line rest (sym c.in-Whole.ensures.form) in
    let reader = c.loop-line.reader in
    let recorded = c.in_ok-read_line-in-Whole.ensures in (
      step (items_from reader.place) _ _ _ _ _ _ _ _ (recorded.items (logical_of rest)) c.trim.ensures.part first c.loop-line.invariant.0,
      step (notes_from reader.place) _ _ _ _ _ _ _ _ (recorded.notes (logical_of rest)) c.trim.ensures.part first c.loop-line.invariant.1,
    )

pub join-requires : goal.join-requires
join-requires c = record { some = continued_some _ (sym c.in-Continued.ensures.form) }

pub loop-line-preserved : goal.loop-line-preserved
loop-line-preserved c =
    let line : Line = record { number = c.in-Some.line.number; text = c.in-Some.line.text.now } in
    let rest = c.next_line.new.self in
    let after = c.join.new.lines in
    let joined = c.in_ok-text-in-Continued.ensures in
    let first = ap logical_of c.in-Some.ensures.next ∙ logical_of-continued line rest after (sym c.in-Continued.ensures.form) joined.following in
    let text = c.trim-in-Continued.ensures.part ∙ ap trimmed (c.deref.ensures.value ∙ joined.text) in
    let reader = c.loop-line.reader in
    let recorded = c.in_ok-read_line-in-Continued.ensures in (
      step (items_from reader.place) _ _ _ _ _ _ _ _ (recorded.items (logical_of after)) text first c.loop-line.invariant.0,
      step (notes_from reader.place) _ _ _ _ _ _ _ _ (recorded.notes (logical_of after)) text first c.loop-line.invariant.1,
    )

pub returns-clause-items : goal.returns-clause-items
returns-clause-items c =
    finished (λ v. items_from c.loop-line.reader.place (logical_of v)) _ _ _ c.in_default.ensures.next (ap (items_from c.loop-line.reader.place) logical_of-nil ∙ items_from-nil c.loop-line.reader.place) c.loop-line.invariant.0

pub returns-clause-notes : goal.returns-clause-notes
returns-clause-notes c =
    finished (λ v. notes_from c.loop-line.reader.place (logical_of v)) _ _ _ c.in_default.ensures.next (ap (notes_from c.loop-line.reader.place) logical_of-nil ∙ notes_from-nil c.loop-line.reader.place) c.loop-line.invariant.1
