use Rattle.std.proofs.Common.{◌++◌, ◌<◌, ◌∷◌, ◌≡◌, ◌≢◌}
use Rattle.script_words.proofs.Prelude.{[], add-one, All, arith, HasNoLineFeed, IsPlainLine, IsWord, length, lines_of-last, lines_of-line_feeds, lines_of-nil, lines_of-returns, List, number_of-decimal, recursion_from_All, spaced, spells_doubled, spells_one, spells_plain, text_after, text_after-last, text_after-spaced, words_of-nil, words_of-space, words_of-spaced, words_of-word, ℕ}
use Rattle.script_words.proofs.laws.script_laws.Goals as goal

text_following : (words : List (List ℕ)) (text : List ℕ) → 0 < length words → All IsWord words → text_after (length words) (spaced words ++ text) ≡ text
text_following [] text some all = absurd (omega arith)
text_following (word ∷ words) text some all = text_after-spaced word words text (recursion_from_All IsWord (word ∷ words) all)

pub returns : goal.returns
returns c = record { nothing = lines_of-nil; line_feeds = λ lines rest plain. lines_of-line_feeds lines rest (recursion_from_All IsPlainLine lines plain); returns = λ lines rest none. lines_of-returns lines rest (recursion_from_All HasNoLineFeed lines none); last_line = lines_of-last; no_words = words_of-nil; spaces = words_of-space; words = λ words line all. words_of-spaced words line (recursion_from_All IsWord words all); last_word = words_of-word; text = text_following; no_text = λ words word all is. rw add-one (text_after-last words word (recursion_from_All IsWord words all) is); decimal = number_of-decimal; one = spells_one; plain = λ bytes plain. spells_plain bytes (recursion_from_All (λ b. b ≢ 92) bytes plain); doubled = spells_doubled }
