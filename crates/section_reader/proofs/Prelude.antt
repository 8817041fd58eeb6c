-- What the proofs use of std, of the crates below and of the definitions.
pub use Rattle.list_laws.specs.Lines.{EndsInReturn, lines-cut_at, lines-cut_nowhere}
pub use Rattle.section_reader.specs.{declared.{assignments.{Assignment.{Assignment}, Note.{Note}, NoteKind.TheVariants.{BadHeader, NoEquals, OutsideSection}}, parts.LineForm.{LineForm, TheVariants.{Blank, Comment, Continued, Whole}}, places.Place.{Place, TheVariants.{Inside, Outside, PassedOver}}}, FileLaws.{ArePlainLines, BlankLinesChangeNumbersAlone, CommentsAreMarked, CommentsChangeNumbersAlone, ContinuedLinesAreJoined, FirstBlankLineChangesNumbersAlone, HasNoMark, kind_of, MarksChangeNothing, physical_lines-file, said, SameButNumbers, text_of_lines, WhitespaceIsBlank}, Lines.{Line, numbered, without_mark}, Logical.{going_on, has_text, joined, joined_lines, kept, lines_following, logical_of, trimmed_line}, LogicalLaws.{continued_some, going_on-line, going_on-nil, joined_lines-line, lines_following-line, logical_of-continued, logical_of-nil, logical_of-passed, logical_of-whole, none_joined}, Parts.{form, has_bytes, header_name, is_blank, is_bracketed, is_comment, is_continued, is_equals, is_white, key_in, pair_of, spaced, trim_end, trim_start, trimmed, value_in}, Places.{items_at, items_from, notes_at, notes_from}, Prelude.{IsPlainLine}, Sections.{assignments_in, assignments_of, note, notes_in, notes_of, section_items, section_notes}, WrittenLaws.{first_of, HasBareEnds, header_line, IsKey, IsName, IsOneLine, IsPair, IsSection, IsValue, last_of, pair_line, pairs_from, Section, section_lines, sections_from, SectionsAreReadBack, written}}
pub use Rattle.std.{proofs.{Common.{[], ap, append-nil, append_assoc, arith, Bool, codes, cond, drop, eqb, Err, false, filter, get_or, inl, inr, length, length-append, List, ltb, map, None, Ok, OnOk, Option, refl, Result, Some, suc, sym, take, true, ℕ, ⊎_elim, ◌∙◌}, lemmas.{Bool.{and_from, and_parts, cond-false, cond-true, Decides.{nat_tests}, eq-eqb, eqb-true, false≢true, le-ltb, lt-ltb, ne_eqb}, List.{drop_all, drop_at, drop_more, Elements.{All-append, All-cons, All-from_recursion, All-push, recursion_from_All}, get_or-append-add, get_or_append_left, get_or_push, map-append, nil_from_length, Sums.{position_or_len_is, suffix_len_is}, take_all, take_at, take_rest}, Result.{on_ok_weaker}}, Math.Seq.{get_or-append_seam}}, specs.{List.{AllByRecursion, ends_with, flat_map, list_all, position_or_len, prefix_len, suffix_len}, Prelude.{nat_eq}, Str.Lines.{lines}}}
