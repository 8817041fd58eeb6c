-- The laws of lines of texts, restated for scripts.
use Rattle.std.proofs.Common.{◌++◌, ◌<◌, ◌∷◌, ◌≡◌}
use Rattle.script_words.specs.{Lines.{lines_of}, Prelude.{[], AllByRecursion, flat_map, HasNoLineFeed, IsPlainLine, length, lines-last, lines-line_feeds, lines-returns, List, refl, ℕ}}

-- an empty script has no lines
pub lines_of-nil : lines_of [] ≡ []
unfolding lines_of
lines_of-nil = refl

-- Lines that are each followed by a line feed are the first lines of the script.
pub lines_of-line_feeds : (lines : List (List ℕ)) (rest : List ℕ) → AllByRecursion IsPlainLine lines
    → lines_of (flat_map (λ line. line ++ 10 ∷ []) lines ++ rest) ≡ lines ++ lines_of rest
unfolding lines_of
lines_of-line_feeds lines rest plain = lines-line_feeds lines rest plain

-- Lines that are each followed by a carriage return and a line feed are the first lines of the script.
pub lines_of-returns : (lines : List (List ℕ)) (rest : List ℕ) → AllByRecursion HasNoLineFeed lines
    → lines_of (flat_map (λ line. line ++ 13 ∷ 10 ∷ []) lines ++ rest) ≡ lines ++ lines_of rest
unfolding lines_of
lines_of-returns lines rest none = lines-returns lines rest none

-- a script without a line feed is one line
pub lines_of-last : (line : List ℕ) → 0 < length line → HasNoLineFeed line → lines_of line ≡ line ∷ []
unfolding lines_of
lines_of-last line some none = lines-last line some none
