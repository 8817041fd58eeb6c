-- Files put together from lines: comments change only line numbers, and so do blank lines that don't end a
-- continuation.
use Rattle.std.proofs.Common.{◌++◌, ◌∷◌, ◌≡◌, ◌⊎◌}
use Rattle.section_reader.specs.Prelude.{[], All, ap, append-nil, cond-false, false, flat_map, IsPlainLine, lines, lines-line_feeds, List, list_all, map, nat_eq, recursion_from_All, starts_with, sym, true, ℕ, ◌∙◌}
use Rattle.section_reader.specs.{declared.{assignments.{Assignment.{Assignment}, Note.{Note}, NoteKind.{NoteKind}}, parts.LineForm.TheVariants.{Blank, Comment, Continued, Whole}}, Lines.{byte_order_mark, numbered, physical_lines}, Parts.{form, is_white}, Sections.{assignments_of, notes_of}}

-- the file of these lines, each followed by a line feed
abbrev pub text_of_lines : List (List ℕ) → List ℕ
text_of_lines texts = flat_map (λ line. line ++ 10 ∷ []) texts

-- the file doesn't begin with a byte order mark
abbrev pub HasNoMark : List ℕ → Type 0
HasNoMark bytes = starts_with nat_eq bytes byte_order_mark ≡ false

-- The lines can be in a file unchanged: none has a line feed or ends in a carriage return, and the file doesn't begin
-- with a byte order mark.
abbrev pub ArePlainLines : List (List ℕ) → Type 0
ArePlainLines texts = All IsPlainLine texts × HasNoMark (text_of_lines texts)

-- an assignment without its line number
abbrev pub said : Assignment → List ℕ × List ℕ × List ℕ
said a = (a.section, a.key, a.value)

abbrev pub kind_of : Note → NoteKind
kind_of n = n.kind

-- two files read the same except for line numbers
abbrev pub SameButNumbers : List ℕ → List ℕ → Type 0
SameButNumbers x y = (map said (assignments_of x) ≡ map said (assignments_of y)) × (map kind_of (notes_of x) ≡ map kind_of (notes_of y))

-- A comment may be added before any line, even before the continuation of a line, and at the end.
abbrev pub CommentsChangeNumbersAlone : Type 0
CommentsChangeNumbersAlone =
    (prefix back : List (List ℕ)) (comment : List ℕ) → form comment ≡ Comment → ArePlainLines (prefix ++ comment ∷ back) → ArePlainLines (prefix ++ back)
    → SameButNumbers (text_of_lines (prefix ++ comment ∷ back)) (text_of_lines (prefix ++ back))

-- A blank line may be added after a whole line or a blank line. After a continued line it ends the continuation, and so
-- it does after a comment within a continuation.
abbrev pub BlankLinesChangeNumbersAlone : Type 0
BlankLinesChangeNumbersAlone =
    (prefix back : List (List ℕ)) (line blank : List ℕ) → (form line ≡ Whole) ⊎ (form line ≡ Blank) → form blank ≡ Blank
    → ArePlainLines (prefix ++ line ∷ blank ∷ back) → ArePlainLines (prefix ++ line ∷ back)
    → SameButNumbers (text_of_lines (prefix ++ line ∷ blank ∷ back)) (text_of_lines (prefix ++ line ∷ back))

-- A blank line may be added before the first line.
abbrev pub FirstBlankLineChangesNumbersAlone : Type 0
FirstBlankLineChangesNumbersAlone =
    (back : List (List ℕ)) (blank : List ℕ) → form blank ≡ Blank → ArePlainLines (blank ∷ back) → ArePlainLines back
    → SameButNumbers (text_of_lines (blank ∷ back)) (text_of_lines back)

-- A continued line and the whole line after it read like one line with a space in place of the backslash and the line
-- feed.
abbrev pub ContinuedLinesAreJoined : Type 0
ContinuedLinesAreJoined =
    (prefix back : List (List ℕ)) (start end : List ℕ) → form (start ++ 92 ∷ []) ≡ Continued → form end ≡ Whole → form (start ++ 32 ∷ end) ≡ Whole
    → ArePlainLines (prefix ++ (start ++ 92 ∷ []) ∷ end ∷ back) → ArePlainLines (prefix ++ (start ++ 32 ∷ end) ∷ back)
    → SameButNumbers (text_of_lines (prefix ++ (start ++ 92 ∷ []) ∷ end ∷ back)) (text_of_lines (prefix ++ (start ++ 32 ∷ end) ∷ back))

-- A line with whitespace and then `#` or `;` is a comment, whatever follows; a line of whitespace is blank.
abbrev pub CommentsAreMarked : Type 0
CommentsAreMarked = (white rest : List ℕ) (b : ℕ) → list_all is_white white ≡ true → (b ≡ 35) ⊎ (b ≡ 59) → form (white ++ b ∷ rest) ≡ Comment

abbrev pub WhitespaceIsBlank : Type 0
WhitespaceIsBlank = (white : List ℕ) → list_all is_white white ≡ true → form white ≡ Blank

-- A byte order mark at the very start changes nothing.
abbrev pub MarksChangeNothing : Type 0
MarksChangeNothing =
    (bytes : List ℕ) → HasNoMark bytes → (assignments_of (byte_order_mark ++ bytes) ≡ assignments_of bytes)
    × (notes_of (byte_order_mark ++ bytes) ≡ notes_of bytes)

-- a file's physical lines are those that it is put together from
pub physical_lines-file : (texts : List (List ℕ)) → ArePlainLines texts → physical_lines (text_of_lines texts) ≡ numbered 1 texts
unfolding physical_lines
physical_lines-file texts plain =
    let whole = ap lines (cond-false _ _ _ plain.1 ∙ sym (append-nil (text_of_lines texts))) in
    ap (numbered 1) (whole ∙ lines-line_feeds texts [] (recursion_from_All IsPlainLine texts plain.0) ∙ append-nil texts)
