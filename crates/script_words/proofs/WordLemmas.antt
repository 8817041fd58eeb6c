-- How the first word of a line is split off.
use Rattle.std.proofs.Common.{◌+◌, ◌<◌, ◌∷◌, ◌≡◌, ◌≢◌, ◌≤◌}
use Rattle.script_words.proofs.Prelude.{[], All-take_before, ap, arith, cases_Bool, cases_lt, cond-true, cut_around, drop, drop_all, drop_more, eqb-false, eqb-true, fails_before_first, false, false_from_ne_true, get_or, is_byte, is_space, IsFirstByte, IsWord, length, length-drop, length-take-le, List, nil_from_length, None, not, Option, passes_at_first, position_or_len, position_or_len_is, prefix_len, prefix_len-le-length, refl, skip_spaces, skip_spaces-other, skip_spaces-space, skip_word, Some, subst, sym, take, take_all, true, unwrap_or, words_of, words_of-nil, words_of-space, words_of-word, words_of-word_space, ℕ, ⊎_elim, ◌∙◌}
use Rattle.script_words.specs.Words.{after_word}

words_of-skip : (line : List ℕ) → words_of line ≡ words_of (skip_spaces line)
words_of-skip [] = refl
words_of-skip (b ∷ line) = by_cases (words_of-skip line)
  where
    by_cases : words_of line ≡ words_of (skip_spaces line) → words_of (b ∷ line) ≡ words_of (skip_spaces (b ∷ line))
    by_cases later = ⊎_elim
        (λ (is : is_space b ≡ true). ap (λ v. words_of (v ∷ line)) (eqb-true b 32 is) ∙ words_of-space line ∙ later ∙ sym (ap words_of (skip_spaces-space b line is)))
        (λ (is : is_space b ≡ false). sym (ap words_of (skip_spaces-other b line is)))
        (cases_Bool (is_space b))

-- after the leading spaces comes a word
word_begins : (line : List ℕ) → 0 < length (skip_spaces line) → 0 < position_or_len is_space (skip_spaces line)
word_begins [] some = absurd (omega arith)
word_begins (b ∷ line) some = by_cases (word_begins line) some
  where
    by_cases : (0 < length (skip_spaces line) → 0 < position_or_len is_space (skip_spaces line)) → 0 < length (skip_spaces (b ∷ line)) → 0 < position_or_len is_space (skip_spaces (b ∷ line))
    by_cases later some = ⊎_elim
        (λ (is : is_space b ≡ true). rw (skip_spaces-space b line is) (later (subst (λ v. 0 < length v) (skip_spaces-space b line is) some)))
        (λ (is : is_space b ≡ false).
        let long : position_or_len is_space (b ∷ line) ≡ 1 + position_or_len is_space line = cond-true _ _ _ (ap not is) in
        subst (λ v. 0 < position_or_len is_space v) (sym (skip_spaces-other b line is)) (omega (arith, long)))
        (cases_Bool (is_space b))

-- a search for the first space, where none is told by the end
pub first_space : (line : List ℕ) (found : Option ℕ) (end : ℕ) → IsFirstByte (is_byte 32) line found → end ≡ unwrap_or found (length line) → end ≡ position_or_len is_space line
first_space line None end none is =
    is ∙ sym (position_or_len_is is_space line (length line) 0 (omega arith) (λ k h. false_from_ne_true _ (none k (omega arith) h)) (λ lt. absurd (omega (arith, lt))))
first_space line (Some at) end first is =
    is ∙ sym (position_or_len_is is_space line at 0 (omega (arith, first.0.high)) (λ k h. false_from_ne_true _ (first.0.before k (omega arith) h)) (λ lt. first.1))

-- the bytes before the first space are a word, if there are any
word_before : (body : List ℕ) → 0 < position_or_len is_space body → IsWord (take (position_or_len is_space body) body)
word_before body some =
    let within : position_or_len is_space body ≤ length body = prefix_len-le-length (λ b. not (is_space b)) body in (
      omega (arith, length-take-le (position_or_len is_space body) body within),
      All-take_before (λ b. b ≢ 32) body (position_or_len is_space body) within (λ k h. eqb-false _ 32 (fails_before_first is_space body k 0 h)),
    )

words_of-body : (body : List ℕ) → 0 < position_or_len is_space body → words_of body ≡ take (position_or_len is_space body) body ∷ words_of (drop (position_or_len is_space body) body)
words_of-body body some = ⊎_elim inside whole (cases_lt end (length body))
  where
    end : ℕ
    end = position_or_len is_space body

    inside : end < length body → words_of body ≡ take end body ∷ words_of (drop end body)
    inside lt =
        let space : get_or body end 0 ≡ 32 = eqb-true _ 32 (passes_at_first is_space body 0 lt) in
        ap words_of (cut_around body end 32 lt space)
        ∙ words_of-word_space (take end body) (drop (end + 1) body) (word_before body some)
        ∙ ap (λ v. take end body ∷ v) (sym (words_of-space (drop (end + 1) body)) ∙ sym (ap words_of (drop_more body end 0 lt ∙ ap (λ v. v ∷ drop (end + 1) body) space)))

    whole : length body ≤ end → words_of body ≡ take end body ∷ words_of (drop end body)
    whole ge =
        let same = take_all end body ge in
        words_of-word body (subst IsWord same (word_before body some))
        ∙ ap (λ v. v ∷ []) (sym same)
        ∙ ap (λ v. take end body ∷ v) (sym (ap words_of (drop_all end body ge) ∙ words_of-nil))

-- a line with more than spaces begins with a word, followed by the words of the rest
pub words_of-cut : (line body front back : List ℕ) (end : ℕ) → body ≡ skip_spaces line → 0 < length body → end ≡ position_or_len is_space body
    → front ≡ take end body → back ≡ drop end body → words_of line ≡ front ∷ words_of back
words_of-cut line body front back end is some at f b =
    let whole = words_of-body (skip_spaces line) (word_begins line (subst (λ v. 0 < length v) is some)) in
    let begins : words_of line ≡ words_of (skip_spaces line) = words_of-skip line in
    cc

-- the rest after the first word
pub after_word-cut : (line body back : List ℕ) (end : ℕ) → body ≡ skip_spaces line → end ≡ position_or_len is_space body → back ≡ drop end body → back ≡ after_word line
unfolding after_word
after_word-cut line body back end is at b = b ∙ ap (λ k. drop k body) at ∙ ap skip_word is

-- a line of spaces has no words
pub words_of-spaces : (line : List ℕ) → length (skip_spaces line) ≡ 0 → words_of line ≡ []
words_of-spaces line none = words_of-skip line ∙ ap words_of (nil_from_length (skip_spaces line) none) ∙ words_of-nil

-- the rest after the first word is shorter
pub shorter-cut : (line body back : List ℕ) (end : ℕ) → body ≡ skip_spaces line → 0 < length body → end ≡ position_or_len is_space body → back ≡ drop end body → length back < length line
shorter-cut line body back end is some at b =
    let begins = word_begins line (subst (λ v. 0 < length v) is some) in
    let same : end ≡ position_or_len is_space (skip_spaces line) = at ∙ ap (position_or_len is_space) is in
    omega (arith, begins, same, ap length b, length-drop end body, ap length is, length-drop (prefix_len is_space line) line)
