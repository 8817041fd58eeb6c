-- Which words a line has, described by how lines are built from words.
use Rattle.std.proofs.Common.{◌++◌, ◌+◌, ◌∷◌, ◌≡◌, ◌≢◌}
use Rattle.script_words.specs.Prelude.{[], All, All-head, All-tail, All-weaker, AllByRecursion, ap, append-nil, append_assoc, arith, cond-false, cond-true, drop, false, filter, length, List, lt-ltb, ne_eqb, not, position_or_len, prefix_len, refl, slice_split_at, slice_split_none, suc, sym, true, ℕ, ◌∙◌}
use Rattle.script_words.specs.Words.{after_word, has_bytes, is_space, IsWord, skip_spaces, skip_word, spaced, text_after, words_of}

-- an empty line has no words
pub words_of-nil : words_of [] ≡ []
unfolding words_of
words_of-nil = refl

-- a leading space is skipped
pub words_of-space : (line : List ℕ) → words_of (32 ∷ line) ≡ words_of line
unfolding words_of
words_of-space line = refl

-- A word followed by a space is the first word of its line.
pub words_of-word_space : (word line : List ℕ) → IsWord word → words_of (word ++ 32 ∷ line) ≡ word ∷ words_of line
unfolding words_of
words_of-word_space word line is =
    ap (filter has_bytes) (slice_split_at is_space word 32 line (All-weaker _ _ (λ b. ne_eqb b 32) word is.1) refl)
    ∙ cond-true _ _ _ (lt-ltb 0 (length word) is.0)

-- A line may be one word.
pub words_of-word : (word : List ℕ) → IsWord word → words_of word ≡ word ∷ []
unfolding words_of
words_of-word word is =
    ap (filter has_bytes) (slice_split_none is_space word (All-weaker _ _ (λ b. ne_eqb b 32) word is.1))
    ∙ cond-true _ _ _ (lt-ltb 0 (length word) is.0)

-- Words that are each followed by a space are the first words of their line.
pub words_of-spaced : (words : List (List ℕ)) (line : List ℕ) → AllByRecursion IsWord words
    → words_of (spaced words ++ line) ≡ words ++ words_of line
words_of-spaced [] line all = refl
words_of-spaced (word ∷ words) line all =
    let parts : (word ++ 32 ∷ [] ++ spaced words) ++ line ≡ word ++ 32 ∷ (spaced words ++ line) = simp append_assoc in
    ap words_of parts ∙ words_of-word_space word (spaced words ++ line) all.0 ∙ ap (λ v. word ∷ v) (words_of-spaced words line all.1)

one_more : (n : ℕ) → 1 + n ≡ suc n
one_more n = omega arith

pub skip_spaces-space : (b : ℕ) (line : List ℕ) → is_space b ≡ true → skip_spaces (b ∷ line) ≡ skip_spaces line
skip_spaces-space b line is = ap (λ k. drop k (b ∷ line)) (cond-true _ _ _ is ∙ one_more (prefix_len is_space line))

pub skip_spaces-other : (b : ℕ) (line : List ℕ) → is_space b ≡ false → skip_spaces (b ∷ line) ≡ b ∷ line
skip_spaces-other b line is = ap (λ k. drop k (b ∷ line)) (cond-false _ _ _ is)

skip_word-other : (b : ℕ) (line : List ℕ) → is_space b ≡ false → skip_word (b ∷ line) ≡ skip_word line
skip_word-other b line is = ap (λ k. drop k (b ∷ line)) (cond-true _ _ _ (ap not is) ∙ one_more (position_or_len is_space line))

skip_word-word_space : (word line : List ℕ) → All (λ b. b ≢ 32) word → skip_word (word ++ 32 ∷ line) ≡ 32 ∷ line
skip_word-word_space [] line other = refl
skip_word-word_space (b ∷ word) line other =
    skip_word-other b (word ++ 32 ∷ line) (ne_eqb b 32 (All-head (λ b. b ≢ 32) b word other)) ∙ skip_word-word_space word line (All-tail (λ b. b ≢ 32) b word other)

skip_word-word : (word : List ℕ) → All (λ b. b ≢ 32) word → skip_word word ≡ []
skip_word-word [] other = refl
skip_word-word (b ∷ word) other = skip_word-other b word (ne_eqb b 32 (All-head (λ b. b ≢ 32) b word other)) ∙ skip_word-word word (All-tail (λ b. b ≢ 32) b word other)

skip_spaces-word : (word line : List ℕ) → IsWord word → skip_spaces (word ++ line) ≡ word ++ line
skip_spaces-word [] line is = absurd (omega (arith, is.0))
skip_spaces-word (b ∷ word) line is = skip_spaces-other b (word ++ line) (ne_eqb b 32 (All-head (λ b. b ≢ 32) b word is.1))

-- a leading space is skipped
pub after_word-space : (line : List ℕ) → after_word (32 ∷ line) ≡ after_word line
unfolding after_word
after_word-space line = ap skip_word (skip_spaces-space 32 line refl)

-- the rest after a word begins with the space after it
pub after_word-word_space : (word line : List ℕ) → IsWord word → after_word (word ++ 32 ∷ line) ≡ 32 ∷ line
unfolding after_word
after_word-word_space word line is = ap skip_word (skip_spaces-word word (32 ∷ line) is) ∙ skip_word-word_space word line is.1

-- nothing follows the last word of a line
pub after_word-word : (word : List ℕ) → IsWord word → after_word word ≡ []
unfolding after_word
after_word-word word is =
    ap after_word (sym (append-nil word)) ∙ ap skip_word (skip_spaces-word word [] is ∙ append-nil word) ∙ skip_word-word word is.1

after_word-spaced : (word : List ℕ) (words : List (List ℕ)) (text : List ℕ) → IsWord word
    → after_word (spaced (word ∷ words) ++ text) ≡ 32 ∷ (spaced words ++ text)
after_word-spaced word words text is =
    let parts : (word ++ 32 ∷ [] ++ spaced words) ++ text ≡ word ++ 32 ∷ (spaced words ++ text) = simp append_assoc in
    ap after_word parts ∙ after_word-word_space word (spaced words ++ text) is

text_after-space : (words : List (List ℕ)) (text : List ℕ) → AllByRecursion IsWord words
    → text_after (length words) (32 ∷ (spaced words ++ text)) ≡ text
text_after-space [] text all = refl
text_after-space (word ∷ words) text all =
    ap (λ v. text_after (length words) v) (after_word-space (spaced (word ∷ words) ++ text) ∙ after_word-spaced word words text all.0)
    ∙ text_after-space words text all.1

-- Any text after words that are each followed by one space is the text after these words.
pub text_after-spaced : (word : List ℕ) (words : List (List ℕ)) (text : List ℕ) → AllByRecursion IsWord (word ∷ words)
    → text_after (length (word ∷ words)) (spaced (word ∷ words) ++ text) ≡ text
text_after-spaced word words text all =
    ap (λ v. text_after (length words) v) (after_word-spaced word words text all.0) ∙ text_after-space words text all.1

-- After the last word of a line, without a space, there is no text.
pub text_after-last : (words : List (List ℕ)) (word : List ℕ) → AllByRecursion IsWord words → IsWord word
    → text_after (suc (length words)) (spaced words ++ word) ≡ []
text_after-last [] word all is = ap (drop 1) (after_word-word word is)
text_after-last (first ∷ words) word all is =
    ap (λ v. text_after (suc (length words)) v) (after_word-spaced first words word all.0)
    ∙ ap (λ v. text_after (length words) v) (after_word-space (spaced words ++ word))
    ∙ text_after-last words word all.1 is
