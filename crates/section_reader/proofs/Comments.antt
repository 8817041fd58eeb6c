-- Comments, blank lines and the byte order mark.
use Rattle.std.proofs.Common.{◌&&◌, ◌++◌, ◌+◌, ◌||◌, ◌∷◌, ◌≡◌}
use Rattle.section_reader.proofs.Prelude.{[], and_parts, ap, arith, assignments_in, Bool, Comment, CommentsAreMarked, cond-false, cond-true, drop, eqb, false, is_blank, is_comment, is_white, lines, List, list_all, logical_of, MarksChangeNothing, notes_in, numbered, prefix_len, refl, suc, sym, trim_start, true, WhitespaceIsBlank, without_mark, ℕ, ⊎_elim, ◌∙◌}
use Rattle.section_reader.proofs.{OneLine.{trim_start-bare}, PartLemmas.{and_nothing}}
use Rattle.section_reader.specs.{Lines.{physical_lines}, Logical.{logical_lines}, Parts.{form}, Sections.{assignments_of, notes_of}}

one_more : (n : ℕ) → 1 + n ≡ suc n
one_more n = omega arith

trim_start-white : (w : ℕ) (line : List ℕ) → is_white w ≡ true → trim_start (w ∷ line) ≡ trim_start line
trim_start-white w line is = ap (λ k. drop k (w ∷ line)) (cond-true _ _ _ is ∙ one_more (prefix_len is_white line))

trim_start-whites : (white line : List ℕ) → list_all is_white white ≡ true → trim_start (white ++ line) ≡ trim_start line
trim_start-whites [] line all = refl
trim_start-whites (w ∷ white) line all =
    let parts = and_parts (is_white w) (list_all is_white white) all in
    trim_start-white w (white ++ line) parts.0 ∙ trim_start-whites white line parts.1

is_mark : ℕ → Bool
is_mark b = (eqb 35 b && true) || (eqb 59 b && true)

blank-comment_sign : (white rest : List ℕ) (b : ℕ) → is_white b ≡ false → is_blank (white ++ b ∷ rest) ≡ false
blank-comment_sign [] rest b other = ap (λ v. v && is_blank rest) other
blank-comment_sign (w ∷ white) rest b other = and_nothing (is_white w) (is_blank (white ++ b ∷ rest)) (blank-comment_sign white rest b other)

comment_sign : (white rest : List ℕ) (b : ℕ) → list_all is_white white ≡ true → is_white b ≡ false → is_mark b ≡ true → form (white ++ b ∷ rest) ≡ Comment
unfolding form is_mark
comment_sign white rest b all other is =
    let text = trim_start-whites white (b ∷ rest) all ∙ trim_start-bare (b ∷ rest) other in
    let comment : is_comment (white ++ b ∷ rest) ≡ true = rw text is in
    cond-false _ _ _ (blank-comment_sign white rest b other) ∙ cond-true _ _ _ comment

pub comments_are_marked : CommentsAreMarked
unfolding is_mark
comments_are_marked white rest b all is =
    ⊎_elim (λ e. rw e (comment_sign white rest 35 all refl refl)) (λ e. rw e (comment_sign white rest 59 all refl refl)) is

pub whitespace_is_blank : WhitespaceIsBlank
unfolding form
whitespace_is_blank white all = cond-true _ _ _ all

pub marks_change_nothing : MarksChangeNothing
unfolding assignments_of notes_of logical_lines physical_lines
marks_change_nothing bytes none =
    let same : without_mark bytes ≡ bytes = cond-false _ _ _ none in
    (ap (λ v. assignments_in (logical_of (numbered 1 (lines v)))) (sym same), ap (λ v. notes_in (logical_of (numbered 1 (lines v)))) (sym same))
