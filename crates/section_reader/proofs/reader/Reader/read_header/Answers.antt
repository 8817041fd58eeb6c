use Rattle.std.proofs.Common.{◌++◌}
use Rattle.section_reader.proofs.{PlaceLemmas.{header_notes-bad, header_notes-good, place_following-bad, place_following-good}, Prelude.{ap, append-nil, Inside, sym, ◌∙◌}}
use Rattle.section_reader.proofs.reader.Reader.read_header.Goals as goal

pub returns-in_ok-from_slice-in-Some-clause-notes : goal.returns-in_ok-from_slice-in-Some-clause-notes
returns-in_ok-from_slice-in-Some-clause-notes c =
    sym (ap (λ v. c.args.self.now.sections.notes ++ v) (header_notes-good (record { number = c.args.number; text = c.args.text.now }) _ c.in-Some.ensures.name) ∙ append-nil _)

pub returns-in_ok-from_slice-in-Some-clause-place : goal.returns-in_ok-from_slice-in-Some-clause-place
returns-in_ok-from_slice-in-Some-clause-place c = ap (λ n. Inside n) c.in_ok-from_slice-in-Some.ensures.copy ∙ sym (place_following-good c.args.text.now _ c.in-Some.ensures.name)

pub returns-in_ok-note-in-None-clause-notes : goal.returns-in_ok-note-in-None-clause-notes
returns-in_ok-note-in-None-clause-notes c =
    c.in_ok-note-in-None.ensures.notes
    ∙ sym (ap (λ v. c.args.self.now.sections.notes ++ v) (header_notes-bad (record { number = c.args.number; text = c.args.text.now }) c.in-None.ensures.name))

pub returns-in_ok-note-in-None-clause-place : goal.returns-in_ok-note-in-None-clause-place
returns-in_ok-note-in-None-clause-place c = sym (place_following-bad c.args.text.now c.in-None.ensures.name)
