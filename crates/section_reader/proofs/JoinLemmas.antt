-- The continuation of a line, read one line at a time.
use Rattle.std.proofs.Common.{◌++◌, ◌∷◌, ◌≡◌, ◌≤◌}
use Rattle.section_reader.proofs.Prelude.{[], ap, append-nil, arith, going_on, going_on-nil, length, Line, lines_following, List, sym, ℕ, ◌∙◌}

-- the continuation, given by the first of the remaining lines
pub recorded : (text whole more : List ℕ) (lines : List Line) (line : Line) (rest : List Line) → text ++ going_on lines ≡ whole → lines ≡ line ∷ rest → going_on (line ∷ rest) ≡ more
    → text ++ more ≡ whole
recorded text whole more lines line rest so_far is step = ap (λ v. text ++ v) (sym (ap going_on is ∙ step)) ∙ so_far

-- the continuation ends
pub recorded_end : (text whole : List ℕ) → text ++ [] ≡ whole → text ≡ whole
recorded_end text whole is = sym (append-nil text) ∙ is

-- no lines remain
pub recorded_none : (text whole : List ℕ) (lines : List Line) → text ++ going_on lines ≡ whole → lines ≡ [] → text ≡ whole
recorded_none text whole lines so_far is = recorded_end text whole (ap (λ v. text ++ v) (sym (ap going_on is ∙ going_on-nil)) ∙ so_far)

pub following : (lines was after : List Line) (line : Line) (rest : List Line) → lines_following lines ≡ lines_following was → lines ≡ line ∷ rest → lines_following (line ∷ rest) ≡ after
    → lines_following was ≡ after
following lines was after line rest so_far is step = sym so_far ∙ ap lines_following is ∙ step

pub fewer : (lines : List Line) (line : Line) (rest : List Line) (n : ℕ) → lines ≡ line ∷ rest → length lines ≤ n → length rest ≤ n
fewer lines line rest n is le = omega (arith, ap length is)
