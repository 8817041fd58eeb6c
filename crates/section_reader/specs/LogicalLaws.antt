-- How lines are joined, by the form of the first line.
use Rattle.std.proofs.Common.{◌++◌, ◌<◌, ◌∷◌, ◌≡◌, ◌⊎◌}
use Rattle.section_reader.specs.Prelude.{[], ap, arith, filter, length, List, map, refl, ℕ, ⊎_elim, ◌∙◌}
use Rattle.section_reader.specs.{declared.parts.LineForm.{LineForm, TheVariants.{Blank, Comment, Continued, Whole}}, Lines.{Line}, Logical.{going_on, has_text, joined, joined_lines, kept, lines_following, logical_of, trimmed_line}, Parts.{form, spaced}}

-- a choice by the form of a line
abbrev pub by_form : {A : Type 0} → LineForm → A → A → A → A → A
by_form {A} f blank comment continued whole = elim f as (λ _. A) [ Blank ↦ blank | Comment ↦ comment | Continued ↦ continued | Whole ↦ whole ]

-- without lines there is no continuation
pub going_on-nil : going_on [] ≡ []
unfolding going_on
going_on-nil = refl

-- without lines there are no joined lines
pub none_joined : (joined_lines [] ≡ []) × (lines_following [] ≡ [])
unfolding joined_lines lines_following
none_joined = (refl, refl)

pub going_on-line : (f : LineForm) (line : Line) (rest : List Line) → form line.text ≡ f
    → going_on (line ∷ rest) ≡ by_form f [] (going_on rest) (spaced line.text ++ going_on rest) line.text
unfolding going_on
going_on-line f line rest is = rw (is, going_on) refl

pub joined_lines-line : (f : LineForm) (line : Line) (rest : List Line) → form line.text ≡ f
    → joined_lines (line ∷ rest) ≡ by_form f (joined_lines rest) (joined_lines rest)
    (joined line rest ∷ lines_following rest) (line ∷ joined_lines rest)
unfolding joined_lines
joined_lines-line f line rest is = rw (is, joined_lines) refl

pub lines_following-line : (f : LineForm) (line : Line) (rest : List Line) → form line.text ≡ f
    → lines_following (line ∷ rest) ≡ by_form f (joined_lines rest) (lines_following rest) (lines_following rest) (joined_lines rest)
unfolding lines_following
lines_following-line f line rest is = rw (is, lines_following) refl

-- a continued line isn't empty: it has a backslash
pub continued_some : (text : List ℕ) → form text ≡ Continued → 0 < length text
unfolding form
continued_some [] is = absurd (cc)
continued_some (b ∷ text) is = omega arith

-- blank lines and comments are left out
pub logical_of-blank : (line : Line) (rest : List Line) → form line.text ≡ Blank → logical_of (line ∷ rest) ≡ logical_of rest
unfolding logical_of
logical_of-blank line rest is = ap (λ v. filter has_text (map trimmed_line v)) (joined_lines-line Blank line rest is)

pub logical_of-comment : (line : Line) (rest : List Line) → form line.text ≡ Comment → logical_of (line ∷ rest) ≡ logical_of rest
unfolding logical_of
logical_of-comment line rest is = ap (λ v. filter has_text (map trimmed_line v)) (joined_lines-line Comment line rest is)

-- a whole line is a logical line by itself
pub logical_of-whole : (line : Line) (rest : List Line) → form line.text ≡ Whole
    → logical_of (line ∷ rest) ≡ kept (trimmed_line line) (logical_of rest)
unfolding logical_of
logical_of-whole line rest is = ap (λ v. filter has_text (map trimmed_line v)) (joined_lines-line Whole line rest is)

-- a continued line, and the lines after its continuation
pub logical_of-continued : (line : Line) (rest after : List Line) → form line.text ≡ Continued → lines_following rest ≡ joined_lines after
    → logical_of (line ∷ rest) ≡ kept (trimmed_line (joined line rest)) (logical_of after)
unfolding logical_of
logical_of-continued line rest after is following =
    ap (λ v. filter has_text (map trimmed_line v)) (joined_lines-line Continued line rest is ∙ ap (λ v. joined line rest ∷ v) following)

pub logical_of-nil : logical_of [] ≡ []
unfolding logical_of
logical_of-nil = ap (λ v. filter has_text (map trimmed_line v)) none_joined.0

-- blank lines and comments are left out
pub logical_of-passed : (line : Line) (rest : List Line) → (form line.text ≡ Blank) ⊎ (form line.text ≡ Comment)
    → logical_of (line ∷ rest) ≡ logical_of rest
logical_of-passed line rest is = ⊎_elim (logical_of-blank line rest) (logical_of-comment line rest) is
