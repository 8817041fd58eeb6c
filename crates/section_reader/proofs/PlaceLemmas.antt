-- What the remaining lines give a reader, one line at a time.
use Rattle.std.proofs.Common.{◌&&◌, ◌++◌, ◌<◌, ◌∷◌, ◌≡◌}
use Rattle.section_reader.proofs.Prelude.{[], ap, append-nil, append_assoc, arith, Assignment, BadHeader, codes, cond-false, cond-true, ends_with, Err, false, flat_map, Inside, is_bracketed, kept, le-ltb, length, Line, List, lt-ltb, ltb, nat_eq, nat_tests, NoEquals, None, Note, note, Ok, OnOk, Option, Outside, OutsideSection, pair_of, PassedOver, Place, refl, Result, Some, sym, true, ℕ, ◌∙◌}
use Rattle.section_reader.specs.{Parts.{header_name}, Places.{header_notes, items_at, items_from, notes_at, notes_from, place_following}, Sections.{assigned, assignments_in, notes_following, notes_in, unassigned, up_to_bracket}}

-- Lists and assignments.

pub nothing_more : {A : Type 0} (xs ys : List A) → ys ≡ [] → xs ≡ xs ++ ys
nothing_more xs ys none = sym (ap (λ v. xs ++ v) none ∙ append-nil xs)

pub one_more : {A : Type 0} (was is one more : List A) → is ≡ was ++ one → more ≡ one → is ≡ was ++ more
one_more was is one more step same = step ∙ ap (λ v. was ++ v) (sym same)

abbrev pub assignment : List ℕ → List ℕ → List ℕ → ℕ → Assignment
assignment section key value line = record { section = section; key = key; value = value; line = line }

pub same_assignment : (s section k key v value : List ℕ) (line : ℕ) → s ≡ section → k ≡ key → v ≡ value
    → assignment s k v line ≡ record { section = section; key = key; value = value; line = line }
same_assignment s section k key v value line es ek ev =
    ap (λ x. assignment x k v line) es ∙ ap (λ x. assignment section x v line) ek ∙ ap (λ x. assignment section key x line) ev

-- Headers.

pub header_notes-good : (line : Line) (name : List ℕ) → header_name line.text ≡ Some name → header_notes line ≡ []
unfolding header_notes
header_notes-good line name is = rw (is, header_notes) refl

pub header_notes-bad : (line : Line) → header_name line.text ≡ None → header_notes line ≡ note BadHeader line ∷ []
unfolding header_notes
header_notes-bad line is = rw (is, header_notes) refl

pub place_following-good : (text name : List ℕ) → header_name text ≡ Some name → place_following text ≡ Inside name
unfolding place_following
place_following-good text name is = rw (is, place_following) refl

pub place_following-bad : (text : List ℕ) → header_name text ≡ None → place_following text ≡ PassedOver
unfolding place_following
place_following-bad text is = rw (is, place_following) refl

-- Other lines.

pub items-outside : (line : Line) → items_at Outside (line ∷ []) ≡ []
unfolding items_at
items-outside line = refl

pub notes-outside : (line : Line) → notes_at Outside (line ∷ []) ≡ note OutsideSection line ∷ []
unfolding notes_at
notes-outside line = refl

pub items-passed_over : (line : Line) → items_at PassedOver (line ∷ []) ≡ []
unfolding items_at
items-passed_over line = refl

pub notes-passed_over : (line : Line) → notes_at PassedOver (line ∷ []) ≡ []
unfolding notes_at
notes-passed_over line = refl

pub items-unassigned : (section : List ℕ) (line : Line) → pair_of line.text ≡ None → items_at (Inside section) (line ∷ []) ≡ []
unfolding items_at assigned
items-unassigned section line is = append-nil (assigned section line) ∙ rw (is, assigned) refl

pub notes-unassigned : (section : List ℕ) (line : Line) → pair_of line.text ≡ None → notes_at (Inside section) (line ∷ []) ≡ note NoEquals line ∷ []
unfolding notes_at unassigned
notes-unassigned section line is = append-nil (unassigned line) ∙ rw (is, unassigned) refl

pub items-assigned : (section : List ℕ) (line : Line) (key value : List ℕ) → pair_of line.text ≡ Some (key, value)
    → items_at (Inside section) (line ∷ []) ≡ record { section = section; key = key; value = value; line = line.number } ∷ []
unfolding items_at assigned
items-assigned section line key value is = append-nil (assigned section line) ∙ rw (is, assigned) refl

pub notes-assigned : (section : List ℕ) (line : Line) (key value : List ℕ) → pair_of line.text ≡ Some (key, value) → notes_at (Inside section) (line ∷ []) ≡ []
unfolding notes_at unassigned
notes-assigned section line key value is = append-nil (unassigned line) ∙ rw (is, unassigned) refl

-- What remains after a line.

items_at-nil : (place : Place) → items_at place [] ≡ []
unfolding items_at
items_at-nil Outside = refl
items_at-nil (Inside section) = refl
items_at-nil PassedOver = refl

notes_at-nil : (place : Place) → notes_at place [] ≡ []
unfolding notes_at
notes_at-nil Outside = refl
notes_at-nil (Inside section) = refl
notes_at-nil PassedOver = refl

items_at-cons : (place : Place) (line : Line) (lines : List Line) → items_at place (line ∷ lines) ≡ items_at place (line ∷ []) ++ items_at place lines
unfolding items_at
items_at-cons Outside line lines = refl
items_at-cons (Inside section) line lines = sym (ap (λ v. v ++ flat_map (assigned section) lines) (append-nil (assigned section line)))
items_at-cons PassedOver line lines = refl

notes_at-cons : (place : Place) (line : Line) (lines : List Line) → notes_at place (line ∷ lines) ≡ notes_at place (line ∷ []) ++ notes_at place lines
unfolding notes_at
notes_at-cons Outside line lines = refl
notes_at-cons (Inside section) line lines = sym (ap (λ v. v ++ flat_map unassigned lines) (append-nil (unassigned line)))
notes_at-cons PassedOver line lines = refl

up_to_bracket-header : (line : Line) (rest : List Line) → is_bracketed line.text ≡ true → up_to_bracket (line ∷ rest) ≡ []
unfolding up_to_bracket
up_to_bracket-header line rest is = cond-true _ _ _ is

up_to_bracket-entry : (line : Line) (rest : List Line) → is_bracketed line.text ≡ false → up_to_bracket (line ∷ rest) ≡ line ∷ up_to_bracket rest
unfolding up_to_bracket
up_to_bracket-entry line rest is = cond-false _ _ _ is

named_items : (name : Option (List ℕ)) (lines : List Line)
    → elim name as (λ _. List Assignment) [ None ↦ [] | Some n ↦ flat_map (assigned n) lines ] ≡ items_at (elim name as (λ _. Place) [ None ↦ PassedOver | Some n ↦ Inside n ]) lines
unfolding items_at
named_items None lines = refl
named_items (Some n) lines = refl

named_notes : (name : Option (List ℕ)) (line : Line) (lines : List Line)
    → elim name as (λ _. List Note) [ None ↦ note BadHeader line ∷ [] | Some n ↦ flat_map unassigned lines ]
    ≡ elim name as (λ _. List Note) [ None ↦ note BadHeader line ∷ [] | Some n ↦ [] ] ++ notes_at (elim name as (λ _. Place) [ None ↦ PassedOver | Some n ↦ Inside n ]) lines
unfolding notes_at
named_notes None line lines = refl
named_notes (Some n) line lines = refl

pub items_from-header : (place : Place) (line : Line) (rest : List Line) → is_bracketed line.text ≡ true → items_from place (line ∷ rest) ≡ items_from (place_following line.text) rest
unfolding items_from assignments_in place_following
items_from-header place line rest is =
    ap (λ v. items_at place v ++ assignments_in (line ∷ rest)) (up_to_bracket-header line rest is)
    ∙ ap (λ v. v ++ assignments_in (line ∷ rest)) (items_at-nil place)
    ∙ ap (λ v. v ++ assignments_in rest) (named_items (header_name line.text) (up_to_bracket rest))

pub notes_from-header : (place : Place) (line : Line) (rest : List Line) → is_bracketed line.text ≡ true
    → notes_from place (line ∷ rest) ≡ header_notes line ++ notes_from (place_following line.text) rest
unfolding notes_from notes_following place_following header_notes
notes_from-header place line rest is =
    ap (λ v. notes_at place v ++ notes_following (line ∷ rest)) (up_to_bracket-header line rest is)
    ∙ ap (λ v. v ++ notes_following (line ∷ rest)) (notes_at-nil place)
    ∙ ap (λ v. v ++ notes_following rest) (cond-true _ _ _ is ∙ named_notes (header_name line.text) line (up_to_bracket rest))
    ∙ append_assoc (header_notes line) (notes_at (place_following line.text) (up_to_bracket rest)) (notes_following rest)

pub plain_header : (text : List ℕ) → is_bracketed text ≡ false → header_name text ≡ None
unfolding header_name
plain_header text is = cond-false _ _ _ (ap (λ b. b && ends_with nat_eq text (codes "]") && ltb 2 (length text)) is)

pub no_items : (name : Option (List ℕ)) (lines : List Line) → name ≡ None → elim name as (λ _. List Assignment) [ None ↦ [] | Some n ↦ flat_map (assigned n) lines ] ≡ []
no_items None lines is = refl
no_items (Some n) lines is = absurd (cc)

-- a line that doesn't begin with a bracket isn't a header
pub assignments_in-entry : (line : Line) (rest : List Line) → is_bracketed line.text ≡ false
    → assignments_in (line ∷ rest) ≡ assignments_in rest
unfolding assignments_in
assignments_in-entry line rest is =
    ap (λ v. v ++ assignments_in rest) (no_items (header_name line.text) (up_to_bracket rest) (plain_header line.text is))

pub notes_following-entry : (line : Line) (rest : List Line) → is_bracketed line.text ≡ false → notes_following (line ∷ rest) ≡ notes_following rest
unfolding notes_following
notes_following-entry line rest is = ap (λ v. v ++ notes_following rest) (cond-false _ _ _ is)

-- what lines give, if the first doesn't begin with a bracket
from-entry : {A : Type 0} (here following : List Line → List A) (line : Line) (rest : List Line) → is_bracketed line.text ≡ false
    → ((lines : List Line) → here (line ∷ lines) ≡ here (line ∷ []) ++ here lines) → following (line ∷ rest) ≡ following rest
    → here (up_to_bracket (line ∷ rest)) ++ following (line ∷ rest) ≡ here (line ∷ []) ++ (here (up_to_bracket rest) ++ following rest)
from-entry here following line rest is one same =
    ap (λ v. here v ++ following (line ∷ rest)) (up_to_bracket-entry line rest is)
    ∙ ap (λ v. v ++ following (line ∷ rest)) (one (up_to_bracket rest))
    ∙ ap (λ v. (here (line ∷ []) ++ here (up_to_bracket rest)) ++ v) same
    ∙ append_assoc (here (line ∷ [])) (here (up_to_bracket rest)) (following rest)

pub items_from-entry : (place : Place) (line : Line) (rest : List Line) → is_bracketed line.text ≡ false
    → items_from place (line ∷ rest) ≡ items_at place (line ∷ []) ++ items_from place rest
unfolding items_from
items_from-entry place line rest is =
    from-entry (items_at place) assignments_in line rest is (items_at-cons place line) (assignments_in-entry line rest is)

pub notes_from-entry : (place : Place) (line : Line) (rest : List Line) → is_bracketed line.text ≡ false
    → notes_from place (line ∷ rest) ≡ notes_at place (line ∷ []) ++ notes_from place rest
unfolding notes_from
notes_from-entry place line rest is =
    from-entry (notes_at place) notes_following line rest is (notes_at-cons place line) (notes_following-entry line rest is)

pub items_from-nil : (place : Place) → items_from place [] ≡ []
unfolding items_from up_to_bracket assignments_in
items_from-nil place = ap (λ v. v ++ []) (items_at-nil place)

pub notes_from-nil : (place : Place) → notes_from place [] ≡ []
unfolding notes_from up_to_bracket notes_following
notes_from-nil place = ap (λ v. v ++ []) (notes_at-nil place)

-- a line that isn't empty is kept
pub kept-some : (line : Line) (rest : List Line) → 0 < length line.text → kept line rest ≡ line ∷ rest
kept-some line rest some = cond-true _ _ _ (lt-ltb 0 (length line.text) some)

-- an empty line gives nothing
pub kept-none : (line : Line) (rest : List Line) → length line.text ≡ 0 → kept line rest ≡ rest
kept-none line rest none = cond-false _ _ _ (le-ltb 0 (length line.text) (omega arith))

-- Reading a line that isn't empty: its result is appended to what was read, and the rest comes from the lines after it.
pub recorded_line : {A T E : Type 0} (give : Place → List Line → List A) (number : ℕ) (text : List ℕ)
    (was_at is_at at : Place) (was is one : List A) (r : Result T E)
    → false ≡ nat_eq (length text) 0 → OnOk r (is ≡ was ++ one) → OnOk r (is_at ≡ at)
    → ((rest : List Line) → give was_at (record { number = number; text = text } ∷ rest) ≡ one ++ give at rest)
    → OnOk r ((rest : List Line) → is ++ give is_at rest ≡ was ++ give was_at (kept (record { number = number; text = text }) rest))
recorded_line give number text was_at is_at at was is one (Ok x) test step place gives = λ rest.
    let some : 0 < length text = grind (arith, nat_tests) in
    ap (λ v. v ++ give is_at rest) step
    ∙ append_assoc was one (give is_at rest)
    ∙ ap (λ p. was ++ (one ++ give p rest)) place
    ∙ ap (λ v. was ++ v) (sym (ap (give was_at) (kept-some (record { number = number; text = text }) rest some) ∙ gives rest))
recorded_line give number text was_at is_at at was is one (Err e) test step place gives = step

-- From the start of a file, the reader gives what the file gives.
pub items_from-start : (lines : List Line) → items_from Outside lines ≡ assignments_in lines
unfolding items_from items_at
items_from-start lines = refl

pub notes_from-start : (lines : List Line) → notes_from Outside lines ≡ notes_in lines
unfolding notes_from notes_at notes_in
notes_from-start lines = refl

-- one more line is read
pub step : {A : Type 0} (give : List Line → List A) (was is whole : List A) (number : ℕ) (text trim : List ℕ) (lines rest : List Line)
    → is ≡ was ++ give (kept (record { number = number; text = trim }) rest) → trim ≡ text → lines ≡ kept (record { number = number; text = text }) rest → was ++ give lines ≡ whole → is ≡ whole
step give was is whole number text trim lines rest now same first so_far =
    now ∙ ap (λ t. was ++ give (kept (record { number = number; text = t }) rest)) same ∙ ap (λ v. was ++ give v) (sym first) ∙ so_far

-- no line remains
pub finished : {A : Type 0} (give : List Line → List A) (was whole : List A) (lines : List Line) → lines ≡ [] → give [] ≡ [] → was ++ give lines ≡ whole → was ≡ whole
finished give was whole lines end nothing so_far = nothing_more was (give lines) (ap give end ∙ nothing) ∙ so_far
