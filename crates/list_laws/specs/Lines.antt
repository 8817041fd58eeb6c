-- The lines of a text, described by how a text is built from lines. A line ends at a line feed; one carriage return
-- directly before the line feed is dropped. The last line needs no line feed, and a carriage return at its end is kept.
-- Source: this project's own.
use Rattle.std.proofs.Common.{◌++◌, ◌+◌, ◌-◌, ◌<◌, ◌==◌, ◌∷◌, ◌≡◌, ◌≢◌}
use Rattle.list_laws.specs.Prelude.{[], add-zero, All, All-from_get_or, All-push, All-weaker, AllByRecursion, ap, append_assoc, arith, cond-false, cond-true, drop, end_from_reads, eq-eqb, flat_map, get_or, get_or_push, length, length-append, length-slice_split, lines, lines_of_parts, List, ne_eqb, refl, slice_split, slice_split_at, slice_split_none, strip_carriage_return, suc, take, take_at, zero, ℕ, ◌∙◌}
use Rattle.list_laws.specs.Cuts.{All-take_before, cut_around}

-- the line contains no line feed
abbrev pub HasNoLineFeed : List ℕ → Type 0
HasNoLineFeed line = All (λ b. b ≢ 10) line

-- the last byte of the line is a carriage return
abbrev pub EndsInReturn : List ℕ → Type 0
EndsInReturn line = (prefix : List ℕ) × (line ≡ prefix ++ 13 ∷ [])

-- The line can be in a text unchanged: it contains no line feed, and doesn't end in a carriage return, which would be
-- dropped.
abbrev pub IsPlainLine : List ℕ → Type 0
IsPlainLine line = HasNoLineFeed line × ¬ (EndsInReturn line)

line_then_parts : (line : List ℕ) (parts : List (List ℕ)) → 0 < length parts
    → lines_of_parts (line ∷ parts) ≡ strip_carriage_return line ∷ lines_of_parts parts
line_then_parts line [] some = absurd (omega arith)
line_then_parts line (next ∷ parts) some = refl

-- the bytes before the first line feed are the first line, without a carriage return at the end
pub lines-line_feed : (line rest : List ℕ) → HasNoLineFeed line → lines (line ++ 10 ∷ rest) ≡ strip_carriage_return line ∷ lines rest
lines-line_feed line rest none =
    let parts = slice_split (λ b. b == 10) rest in
    ap lines_of_parts (slice_split_at (λ b. b == 10) line 10 rest (All-weaker _ _ (λ b. ne_eqb b 10) line none) refl)
    ∙ line_then_parts line parts (omega (arith, length-slice_split (λ b. b == 10) rest))

one_part : (line : List ℕ) → 0 < length line → lines_of_parts (line ∷ []) ≡ line ∷ []
one_part line some = cond-false _ _ _ (ne_eqb (length line) 0 (λ e. omega arith))

-- a text without a line feed is one line
pub lines-last : (line : List ℕ) → 0 < length line → HasNoLineFeed line → lines line ≡ line ∷ []
lines-last line some none =
    ap lines_of_parts (slice_split_none (λ b. b == 10) line (All-weaker _ _ (λ b. ne_eqb b 10) line none)) ∙ one_part line some

-- a line that doesn't end in a carriage return is unchanged
strip_carriage_return-plain : (line : List ℕ) → ¬ (EndsInReturn line) → strip_carriage_return line ≡ line
strip_carriage_return-plain [] plain = refl
strip_carriage_return-plain (b ∷ rest) plain =
    let line = b ∷ rest in
    cond-false _ _ _
    (ne_eqb (get_or line (length line - 1) 0) 13
    (λ is. plain (take (length line - 1) line, end_from_reads 0 line (13 ∷ []) (omega arith) (at_last is))))
  where
    at_last : get_or (b ∷ rest) (length (b ∷ rest) - 1) 0 ≡ 13 → (i : ℕ) → i < 1
        → get_or (b ∷ rest) (length (b ∷ rest) - 1 + i) 0 ≡ get_or (13 ∷ []) i 0
    at_last is zero lt = rw add-zero is
    at_last is (suc i) lt = absurd (omega arith)

-- Lines that are each followed by a line feed are the first lines of the text.
pub lines-line_feeds : (texts : List (List ℕ)) (rest : List ℕ) → AllByRecursion IsPlainLine texts
    → lines (flat_map (λ line. line ++ 10 ∷ []) texts ++ rest) ≡ texts ++ lines rest
lines-line_feeds [] rest plain = refl
lines-line_feeds (line ∷ texts) rest plain =
    let later = flat_map (λ line. line ++ 10 ∷ []) texts ++ rest in
    let parts : (line ++ 10 ∷ [] ++ flat_map (λ line. line ++ 10 ∷ []) texts) ++ rest ≡ line ++ 10 ∷ later = simp append_assoc in
    ap lines parts
    ∙ lines-line_feed line later plain.0.0
    ∙ ap (λ v. v ∷ lines later) (strip_carriage_return-plain line plain.0.1)
    ∙ ap (λ v. line ∷ v) (lines-line_feeds texts rest plain.1)

-- only the carriage return directly before the line feed is dropped
strip_carriage_return-return : (line : List ℕ) → strip_carriage_return (line ++ 13 ∷ []) ≡ line
strip_carriage_return-return line =
    let long : length (line ++ 13 ∷ []) - 1 ≡ length line = omega (arith, length-append line (13 ∷ [])) in
    cond-true _ _ _ (eq-eqb _ 13 (ap (λ k. get_or (line ++ 13 ∷ []) k 0) long ∙ get_or_push line 13 0 (length line) refl))
    ∙ ap (λ k. take k (line ++ 13 ∷ [])) long ∙ take_at line (13 ∷ []) (length line) refl

-- Lines that are each followed by a carriage return and a line feed are the first lines of the text.
pub lines-returns : (texts : List (List ℕ)) (rest : List ℕ) → AllByRecursion HasNoLineFeed texts
    → lines (flat_map (λ line. line ++ 13 ∷ 10 ∷ []) texts ++ rest) ≡ texts ++ lines rest
lines-returns [] rest none = refl
lines-returns (line ∷ texts) rest none =
    let later = flat_map (λ line. line ++ 13 ∷ 10 ∷ []) texts ++ rest in
    let parts : (line ++ 13 ∷ 10 ∷ [] ++ flat_map (λ line. line ++ 13 ∷ 10 ∷ []) texts) ++ rest ≡ (line ++ 13 ∷ []) ++ 10 ∷ later = simp append_assoc in
    ap lines parts
    ∙ lines-line_feed (line ++ 13 ∷ []) later (All-push (λ b. b ≢ 10) line 13 none.0 (λ e. omega arith))
    ∙ ap (λ v. v ∷ lines later) (strip_carriage_return-return line)
    ∙ ap (λ v. line ∷ v) (lines-returns texts rest none.1)

-- if a search finds no line feed, the text is one line
pub lines-cut_nowhere : (bytes : List ℕ) → 0 < length bytes → ((k : ℕ) → k < length bytes → get_or bytes k 0 ≢ 10)
    → lines bytes ≡ bytes ∷ lines []
lines-cut_nowhere bytes some none = lines-last bytes some (All-from_get_or (λ b. b ≢ 10) bytes 0 none)

-- a text split at the first line feed that a search finds
pub lines-cut_at : (bytes : List ℕ) (end : ℕ) → end < length bytes → get_or bytes end 0 ≡ 10 → ((k : ℕ) → k < end → get_or bytes k 0 ≢ 10)
    → lines bytes ≡ strip_carriage_return (take end bytes) ∷ lines (drop (end + 1) bytes)
lines-cut_at bytes end lt is before =
    ap lines (cut_around bytes end 10 lt is) ∙ lines-line_feed (take end bytes) (drop (end + 1) bytes) (All-take_before (λ b. b ≢ 10) bytes end (omega arith) before)
