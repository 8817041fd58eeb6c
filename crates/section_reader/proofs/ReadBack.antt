-- Sections that are written line by line are read back.
use Rattle.std.proofs.Common.{◌++◌, ◌+◌, ◌-◌, ◌∷◌, ◌≡◌, ◌≢◌}
use Rattle.section_reader.proofs.Prelude.{[], All-append, All-cons, All-from_recursion, All-push, AllByRecursion, ap, append-nil, arith, Assignment, BadHeader, cond-false, EndsInReturn, false, false≢true, flat_map, get_or, get_or_push, HasNoMark, header_line, header_name, is_bracketed, is_white, IsName, IsOneLine, IsPair, IsPlainLine, IsSection, last_of, length, length-append, Line, List, logical_of, map, None, Note, note, Option, OutsideSection, pair_line, pairs_from, physical_lines-file, recursion_from_All, refl, Section, section_lines, sections_from, SectionsAreReadBack, Some, sym, written, ℕ, ◌∙◌}
use Rattle.section_reader.proofs.{OneLine.{header-name, header-one, one_by_one, pair-of, pair-one, pair-plain}, PlaceLemmas.{assignments_in-entry, notes_following-entry}}
use Rattle.section_reader.specs.{Lines.{numbered}, Logical.{logical_lines}, Sections.{assigned, assignments_in, assignments_of, notes_following, notes_in, notes_of, unassigned, up_to_bracket}}

-- the lines of all sections, one section after another
abbrev all_lines : List Section → List (List ℕ)
all_lines sections = flat_map section_lines sections

block-sections : (n : ℕ) (sections : List Section) → up_to_bracket (numbered n (all_lines sections)) ≡ []
unfolding up_to_bracket numbered
block-sections n [] = refl
block-sections n (section ∷ sections) = refl

block-pairs : (n end : ℕ) (pairs : List (List ℕ × List ℕ)) (rest : List (List ℕ)) → AllByRecursion IsPair pairs → n + length pairs ≡ end
    → up_to_bracket (numbered n (map pair_line pairs ++ rest)) ≡ numbered n (map pair_line pairs) ++ up_to_bracket (numbered end rest)
unfolding up_to_bracket numbered
block-pairs n end [] rest all at = ap (λ k. up_to_bracket (numbered k rest)) (let here : n ≡ end = omega arith in here)
block-pairs n end (pair ∷ pairs) rest all at =
    let line : Line = record { number = n; text = pair_line pair } in
    cond-false _ _ _ (pair-plain pair.0 pair.1 all.0.0) ∙ ap (λ v. line ∷ v) (block-pairs (n + 1) end pairs rest all.1 (omega arith))

-- a function that looks only at headers skips lines with pairs
past-pairs : {A : Type 0} (following : List Line → List A)
    → ((line : Line) (rest : List Line) → is_bracketed line.text ≡ false → following (line ∷ rest) ≡ following rest)
    → (n end : ℕ) (pairs : List (List ℕ × List ℕ)) (rest : List (List ℕ)) → AllByRecursion IsPair pairs → n + length pairs ≡ end
    → following (numbered n (map pair_line pairs ++ rest)) ≡ following (numbered end rest)
unfolding numbered
past-pairs following past n end [] rest all at = ap (λ k. following (numbered k rest)) (let here : n ≡ end = omega arith in here)
past-pairs following past n end (pair ∷ pairs) rest all at =
    past (record { number = n; text = pair_line pair }) (numbered (n + 1) (map pair_line pairs ++ rest)) (pair-plain pair.0 pair.1 all.0.0)
    ∙ past-pairs following past (n + 1) end pairs rest all.1 (omega arith)

-- Assignments.

assigned-pair : (name : List ℕ) (n : ℕ) (pair : List ℕ × List ℕ) → IsPair pair
    → assigned name (record { number = n; text = pair_line pair }) ≡ record { section = name; key = pair.0; value = pair.1; line = n } ∷ []
unfolding assigned
assigned-pair name n pair is = rw (pair-of pair.0 pair.1 is.0 is.1, assigned) refl

section-items : (name : List ℕ) (n : ℕ) (pairs : List (List ℕ × List ℕ)) → AllByRecursion IsPair pairs → flat_map (assigned name) (numbered n (map pair_line pairs)) ≡ pairs_from name n pairs
unfolding numbered
section-items name n [] all = refl
section-items name n (pair ∷ pairs) all =
    ap (λ v. v ++ flat_map (assigned name) (numbered (n + 1) (map pair_line pairs))) (assigned-pair name n pair all.0)
    ∙ ap (λ v. record { section = name; key = pair.0; value = pair.1; line = n } ∷ v) (section-items name (n + 1) pairs all.1)

named_items-some : (header : Option (List ℕ)) (name : List ℕ) (lines : List Line) → header ≡ Some name
    → elim header as (λ _. List Assignment) [ None ↦ [] | Some n ↦ flat_map (assigned n) lines ] ≡ flat_map (assigned name) lines
named_items-some None name lines is = absurd (cc)
named_items-some (Some n) name lines is = let same : n ≡ name = cc in ap (λ v. flat_map (assigned v) lines) same

section_block : (n : ℕ) (section : Section) (sections : List Section) → AllByRecursion IsPair section.pairs
    → up_to_bracket (numbered n (map pair_line section.pairs ++ all_lines sections)) ≡ numbered n (map pair_line section.pairs)
section_block n section sections pairs =
    block-pairs n (n + length section.pairs) section.pairs (all_lines sections) pairs refl
    ∙ ap (λ v. numbered n (map pair_line section.pairs) ++ v) (block-sections (n + length section.pairs) sections) ∙ append-nil (numbered n (map pair_line section.pairs))

items-sections : (n : ℕ) (sections : List Section) → AllByRecursion IsSection sections → assignments_in (numbered n (all_lines sections)) ≡ sections_from n sections
unfolding assignments_in numbered
items-sections n [] all = refl
items-sections n (section ∷ sections) all =
    let later = numbered (n + 1) (map pair_line section.pairs ++ all_lines sections) in
    let pairs = recursion_from_All IsPair section.pairs all.0.1 in
    ap (λ v. v ++ assignments_in later)
    (named_items-some (header_name (header_line section.name)) section.name (up_to_bracket later) (header-name section.name all.0.0)
    ∙ ap (flat_map (assigned section.name)) (section_block (n + 1) section sections pairs)
    ∙ section-items section.name (n + 1) section.pairs pairs)
    ∙ ap (λ v. pairs_from section.name (n + 1) section.pairs ++ v)
    (past-pairs assignments_in assignments_in-entry (n + 1) (n + 1 + length section.pairs) section.pairs (all_lines sections) pairs refl
    ∙ items-sections (n + 1 + length section.pairs) sections all.1)

-- Notes.

unassigned-pair : (n : ℕ) (pair : List ℕ × List ℕ) → IsPair pair → unassigned (record { number = n; text = pair_line pair }) ≡ []
unfolding unassigned
unassigned-pair n pair is = rw (pair-of pair.0 pair.1 is.0 is.1, unassigned) refl

section-notes : (n : ℕ) (pairs : List (List ℕ × List ℕ)) → AllByRecursion IsPair pairs → flat_map unassigned (numbered n (map pair_line pairs)) ≡ []
unfolding numbered
section-notes n [] all = refl
section-notes n (pair ∷ pairs) all =
    ap (λ v. v ++ flat_map unassigned (numbered (n + 1) (map pair_line pairs))) (unassigned-pair n pair all.0) ∙ section-notes (n + 1) pairs all.1

named_notes-some : (header : Option (List ℕ)) (name : List ℕ) (line : Line) (lines : List Line) → header ≡ Some name
    → elim header as (λ _. List Note) [ None ↦ note BadHeader line ∷ [] | Some n ↦ flat_map unassigned lines ] ≡ flat_map unassigned lines
named_notes-some None name line lines is = absurd (cc)
named_notes-some (Some n) name line lines is = refl

notes-sections : (n : ℕ) (sections : List Section) → AllByRecursion IsSection sections → notes_following (numbered n (all_lines sections)) ≡ []
unfolding notes_following numbered
notes-sections n [] all = refl
notes-sections n (section ∷ sections) all =
    let line : Line = record { number = n; text = header_line section.name } in
    let later = numbered (n + 1) (map pair_line section.pairs ++ all_lines sections) in
    let pairs = recursion_from_All IsPair section.pairs all.0.1 in
    ap (λ v. v ++ notes_following later)
    (named_notes-some (header_name (header_line section.name)) section.name line (up_to_bracket later) (header-name section.name all.0.0)
    ∙ ap (flat_map unassigned) (section_block (n + 1) section sections pairs)
    ∙ section-notes (n + 1) section.pairs pairs)
    ∙ past-pairs notes_following notes_following-entry (n + 1) (n + 1 + length section.pairs) section.pairs (all_lines sections) pairs refl
    ∙ notes-sections (n + 1 + length section.pairs) sections all.1

-- The whole file.

pairs-all : (P : List ℕ → Type 0) (pairs : List (List ℕ × List ℕ)) (rest : List (List ℕ)) → AllByRecursion IsPair pairs → ((pair : List ℕ × List ℕ) → IsPair pair → P (pair_line pair)) → AllByRecursion P rest
    → AllByRecursion P (map pair_line pairs ++ rest)
pairs-all P [] rest all each more = more
pairs-all P (pair ∷ pairs) rest all each more = (each pair all.0, pairs-all P pairs rest all.1 each more)

sections-all : (P : List ℕ → Type 0) (sections : List Section) → AllByRecursion IsSection sections → ((name : List ℕ) → IsName name → P (header_line name)) → ((pair : List ℕ × List ℕ) → IsPair pair → P (pair_line pair))
    → AllByRecursion P (all_lines sections)
sections-all P [] all header each = tt
sections-all P (section ∷ sections) all header each = (
  header section.name all.0.0,
  pairs-all P section.pairs (all_lines sections) (recursion_from_All IsPair section.pairs all.0.1) each (sections-all P sections all.1 header each),
)

last_return : (line prefix : List ℕ) → line ≡ prefix ++ 13 ∷ [] → last_of line ≡ 13
last_return line prefix is =
    let at : length (prefix ++ 13 ∷ []) - 1 ≡ length prefix = omega (arith, length-append prefix (13 ∷ [])) in
    ap last_of is ∙ ap (λ k. get_or (prefix ++ 13 ∷ []) k 0) at ∙ get_or_push prefix 13 0 (length prefix) refl

-- a line without whitespace at its end doesn't end in a carriage return
no_return : (line : List ℕ) → is_white (last_of line) ≡ false → EndsInReturn line → ⊥
no_return line bare ends = false≢true (sym bare ∙ ap is_white (last_return line ends.0 ends.1))

plain-header : (name : List ℕ) → IsName name → IsPlainLine (header_line name)
plain-header name is =
    let P : ℕ → Type 0 = λ b. b ≢ 10 in
    (All-cons P 91 (name ++ 93 ∷ []) (λ e. omega (arith, e)) (All-push P name 93 is.one_line (λ e. omega (arith, e))), no_return (header_line name) (header-one name).bare.1)

plain-pair : (pair : List ℕ × List ℕ) → IsPair pair → IsPlainLine (pair_line pair)
plain-pair pair is =
    let P : ℕ → Type 0 = λ b. b ≢ 10 in (
      All-append P pair.0 (61 ∷ pair.1) is.0.one_line (All-cons P 61 pair.1 (λ e. omega (arith, e)) is.1.one_line),
      no_return (pair_line pair) (pair-one pair.0 pair.1 is.0 is.1).bare.1,
    )

no_mark : (sections : List Section) → HasNoMark (written sections)
no_mark [] = refl
no_mark (section ∷ sections) = refl

pub sections_are_read_back : SectionsAreReadBack
unfolding assignments_of notes_of logical_lines notes_in
sections_are_read_back sections every =
    let all = recursion_from_All IsSection sections every in
    let texts = all_lines sections in
    let plain = All-from_recursion IsPlainLine texts (sections-all IsPlainLine sections all plain-header plain-pair) in
    let single = sections-all IsOneLine sections all (λ name is. header-one name) (λ pair is. pair-one pair.0 pair.1 is.0 is.1) in
    let lines = ap logical_of (physical_lines-file texts (plain, no_mark sections)) ∙ one_by_one 1 texts single in (
      ap assignments_in lines ∙ items-sections 1 sections all,
      ap notes_in lines ∙ ap (λ v. map (note OutsideSection) v ++ notes_following (numbered 1 texts)) (block-sections 1 sections) ∙ notes-sections 1 sections all,
    )
