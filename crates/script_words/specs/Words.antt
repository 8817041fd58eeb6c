-- The words of a line, and the text that follows some of them.
-- Source: this project's own.
use Rattle.std.proofs.Common.{◌++◌, ◌<◌, ◌==◌, ◌∷◌, ◌≢◌}
use Rattle.script_words.specs.Prelude.{[], All, Bool, drop, filter, flat_map, length, List, nat_lt, position_or_len, prefix_len, slice_split, suc, zero, ℕ}

-- Only the space separates words: a tab or a carriage return is part of a word.
abbrev pub is_space : ℕ → Bool
is_space b = b == 32

abbrev pub has_bytes : List ℕ → Bool
has_bytes part = nat_lt 0 (length part)

-- The words of a line: the parts between its spaces that aren't empty.
unfoldable pub words_of : List ℕ → List (List ℕ)
words_of line = filter has_bytes (slice_split is_space line)

-- a line without its leading spaces
abbrev pub skip_spaces : List ℕ → List ℕ
skip_spaces line = drop (prefix_len is_space line) line

-- a line from its first space on
abbrev pub skip_word : List ℕ → List ℕ
skip_word line = drop (position_or_len is_space line) line

-- The rest after the first word of a line, with the space that ends the word.
unfoldable pub after_word : List ℕ → List ℕ
after_word line = skip_word (skip_spaces line)

-- The text after the first n words of a line and exactly one space, or nothing.
abbrev pub text_after : ℕ → List ℕ → List ℕ
text_after zero line = drop 1 line
text_after (suc n) line = text_after n (after_word line)

-- a valid word in a line: it isn't empty and has no space
abbrev pub IsWord : List ℕ → Type 0
IsWord word = (0 < length word) × All (λ b. b ≢ 32) word

-- words, each followed by a space
abbrev pub spaced : List (List ℕ) → List ℕ
spaced words = flat_map (λ word. word ++ 32 ∷ []) words
